-- The checks of a handover: which refusal is given, and what is known once all have passed.
use Prim.Native.Nat.{ℕ, ◌≤◌}
use mathlib.Core.Path.{◌≡◌, sym, ap₂, ◌∙◌}
use mathlib.Core.List.{List, [], ◌∷◌}
use Rattle.refusals.specs.declared.Refusal.{Refusal}
use Rattle.std.specs.Result.{result_and}
use Rattle.refusals.specs.Cases.{Case, check_of}
use Rattle.refusals.proofs.First.{both_pass}
use Rattle.weights.specs.declared.PerPlace.{PerPlace}
use Rattle.weights.specs.declared.Component.{Component}
use Rattle.weights.specs.Sizes.{arc_sum}
use Rattle.weights.specs.Languages.{places_of}
use Rattle.matrices.specs.Buffers.{Square}
use Rattle.matrices.proofs.Malformed.{check_formed}
use Rattle.guards.specs.Checks.{most_nodes, nodes_case, length_case, arcs_case, node_case}
use Rattle.guards.specs.OnNetwork.{OnNetwork, components}
use Rattle.guards.proofs.Singles as singles
use Rattle.guards.specs.Entrance.{length_measured, entrance_check, Entered}
use Rattle.guards.proofs.Singles.{length_passed, node_passed}
use Rattle.guards.proofs.Entering.{entrance_refuses, entrance_leaves, sizes_passed, lengths_passed}
use Rattle.routes.proofs.Order.{nodes_only, nodes_found, two_checks, arcs_same}
use Rattle.handover.specs.Calls.{handover_check}
use Rattle.handover.specs.Parts.{HandoverChecked}
use Rattle.refusals.specs.Checks.{Check}
use Rattle.std.specs.Prelude.{Ok, Err}

module _ (N : OnNetwork) (standing newer : List ℕ) (i : ℕ) {found in_arcs in_newer in_standing matrices measured : Check} (en : found ≡ (nodes_case N.n).check)
    (ew : in_newer ≡ length_measured 2 N.n newer) (es : in_standing ≡ length_measured 5 N.n standing) (eb : matrices ≡ result_and in_newer in_standing)
    (ea : in_arcs ≡ length_measured 1 N.n N.arcs) (em : measured ≡ result_and in_arcs matrices) where
  open N use {n, arcs}

  abbrev sizes : List Case
  sizes = nodes_case n ∷ []

  abbrev lengths : List Case
  lengths = length_case 1 n arcs ∷ length_case 2 n newer ∷ length_case 5 n standing ∷ []

  abbrev own : List Case
  own = arcs_case (components N) n arcs ∷ node_case 0 n i ∷ []

  all_long : check_of sizes ≡ Ok tt → measured ≡ check_of lengths
  all_long e =
      let few = (nodes_found n e).1 in
      em ∙ ap₂ result_and (singles.measured 1 n arcs few ea) (eb ∙ two_checks (length_case 2 n newer).check (length_case 5 n standing).check (singles.measured 2 n newer few ew) (singles.measured 5 n standing few es))

  pub handover_stops : {x : Refusal} → entrance_check N.language found measured ≡ Err x → handover_check N standing newer i ≡ Err x
  handover_stops e = entrance_refuses N.language sizes lengths own found measured (nodes_only n en) all_long e

  module _ (p : PerPlace Component) (o : Entered N.language found measured p) where
    few : n ≤ most_nodes
    few = (nodes_found n (sizes_passed N.language sizes lengths own found measured (nodes_only n en) all_long o)).1

    pub squares : Square n arcs × Square n newer × Square n standing
    squares =
        let h = both_pass (length_case 1 n arcs).check _ (lengths_passed N.language sizes lengths own found measured (nodes_only n en) all_long o) in
        let k = both_pass (length_case 2 n newer).check _ h.1 in
        (length_passed 1 n arcs few h.0, length_passed 2 n newer few k.0, length_passed 5 n standing few (both_pass (length_case 5 n standing).check (Ok tt) k.1).0)

    module _ {well there last : Check} (qa : well ≡ (arcs_case (places_of p) n arcs).check) (qi : there ≡ (node_case 0 n i).check) (q : last ≡ result_and well there) where
      pub own_then : {c : Check} → last ≡ c → handover_check N standing newer i ≡ c
      own_then e =
          entrance_leaves N.language sizes lengths own found measured (nodes_only n en) all_long o
          (sym (two_checks (arcs_case (components N) n arcs).check (node_case 0 n i).check (qa ∙ arcs_same N.language p o.in_places n arcs squares.0) qi) ∙ sym q ∙ e)

      pub handover_given : last ≡ Ok tt → HandoverChecked N standing newer i p
      handover_given e =
          let h = both_pass well there (sym q ∙ e) in
          let s = o.in_places in
          record {
            passes = own_then e;
            in_places = s;
            arcs = record {
              limits = s.limits;
              sound = s.sound;
              law_d_holds = s.law_d_holds;
              law_u_holds = s.law_u_holds;
              arcs = check_formed 1 arc_sum (places_of p) n arcs squares.0 (sym qa ∙ h.0);
            };
            new_square = squares.1;
            standing_square = squares.2;
            node = node_passed 0 n i (sym qi ∙ h.1);
          }
