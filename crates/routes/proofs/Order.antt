-- The checks of the calls fresh and on A and R: which refusal is given, and what is known once all have passed.
use Prim.Native.Nat.{ℕ, ◌≤◌}
use mathlib.Core.Path.{◌≡◌, refl, sym, ap, ap₂, subst, ◌∙◌}
use mathlib.Core.List.{List, [], ◌∷◌}
use Rattle.refusals.specs.declared.Refusal.{Refusal}
use Rattle.std.specs.Result.{result_and}
use Rattle.refusals.specs.Cases.{Case, check_of}
use Rattle.refusals.proofs.First.{or_passed, both_pass, stops, goes_on}
use Rattle.refusals.proofs.Cases.{check_append}
use Rattle.weights.specs.declared.Component.{Component}
use Rattle.weights.specs.declared.Language.{Language}
use Rattle.weights.specs.declared.PerPlace.{PerPlace}
use Rattle.weights.specs.Sizes.{places, arc_sum, matrix_sum}
use Rattle.weights.specs.Weights.{Sound}
use Rattle.weights.specs.Languages.{components_of, places_of}
use Rattle.weights.proofs.Padding.{sound_unpad}
use Rattle.weights.proofs.Checking.{few}
use Rattle.matrices.specs.Buffers.{Square}
use Rattle.matrices.specs.Steps.{Given}
use Rattle.matrices.proofs.Malformed.{check_formed}
use Rattle.guards.specs.Checks.{most_nodes, nodes_case, length_case, arcs_case, routes_case}
use Rattle.guards.specs.OnNetwork.{OnNetwork, components}
use Rattle.guards.proofs.Singles as singles
use Rattle.guards.specs.Entrance.{length_measured, entrance_check, Placed, Entered}
use Rattle.guards.proofs.Singles.{nodes_passed, length_passed}
use Rattle.guards.proofs.Entering.{entrance_refuses, entrance_leaves, sizes_passed, lengths_passed}
use Rattle.routes.specs.Calls.{fresh_check, matrices_cases, equation_check}
use Rattle.routes.proofs.Bridge.{check_pad}
use Rattle.refusals.specs.Checks.{Check}
use Rattle.std.specs.Prelude.{Ok, Err}

-- ---- a language in its places

-- the language's own limits are sound
pub placed_sound : (l : Language) (p : PerPlace Component) → Placed l p → Sound (components_of l)
placed_sound l p o = sound_unpad places (components_of l) (few l) (subst Sound o.placed o.sound)

-- entries are checked alike in the places and in the language
pub arcs_same : (l : Language) (p : PerPlace Component) → Placed l p → (n : ℕ) (a : List ℕ) → Square n a → (arcs_case (places_of p) n a).check ≡ (arcs_case (components_of l) n a).check
arcs_same l p o n a q = ap (λ (cs : List Component). (arcs_case cs n a).check) o.placed ∙ check_pad 1 arc_sum (components_of l) n a (few l) q

pub routes_same : (l : Language) (p : PerPlace Component) → Placed l p → (n : ℕ) (r : List ℕ) → Square n r → (routes_case (places_of p) n r).check ≡ (routes_case (components_of l) n r).check
routes_same l p o n r q = ap (λ (cs : List Component). (routes_case cs n r).check) o.placed ∙ check_pad 2 matrix_sum (components_of l) n r (few l) q

-- ---- the entrance of the calls whose one size is n

-- what the code's check of n gives, as the list of the sizes
pub nodes_only : (n : ℕ) {found : Check} → found ≡ (nodes_case n).check → found ≡ check_of (nodes_case n ∷ [])
nodes_only n e = e ∙ sym (or_passed (nodes_case n).check)

-- n is 1..16 where the sizes pass
pub nodes_found : (n : ℕ) → check_of (nodes_case n ∷ []) ≡ Ok tt → (1 ≤ n) × (n ≤ most_nodes)
nodes_found n e = nodes_passed n (both_pass (nodes_case n).check (Ok tt) e).0

-- two checks, one after the other, as the list of them
pub two_checks : {c d : Check} (x y : Check) → c ≡ x → d ≡ y → result_and c d ≡ result_and x (result_and y (Ok tt))
two_checks x y e f = ap₂ result_and e (f ∙ sym (or_passed y))

-- ---- fresh

module _ (l : Language) (n : ℕ) (r : List ℕ) {found measured : Check} (en : found ≡ (nodes_case n).check) (er : measured ≡ length_measured 2 n r) where
  long : check_of (nodes_case n ∷ []) ≡ Ok tt → measured ≡ check_of (length_case 2 n r ∷ [])
  long e = singles.measured 2 n r (nodes_found n e).1 er ∙ sym (or_passed (length_case 2 n r).check)

  pub fresh_stops : {x : Refusal} → entrance_check l found measured ≡ Err x → fresh_check l n r ≡ Err x
  fresh_stops e = entrance_refuses l (nodes_case n ∷ []) (length_case 2 n r ∷ []) [] found measured (nodes_only n en) long e

  pub fresh_enters : {p : PerPlace Component} → Entered l found measured p → (fresh_check l n r ≡ Ok tt) × Square n r
  fresh_enters o = (
    entrance_leaves l (nodes_case n ∷ []) (length_case 2 n r ∷ []) [] found measured (nodes_only n en) long o refl,
    length_passed 2 n r (nodes_found n (sizes_passed l (nodes_case n ∷ []) (length_case 2 n r ∷ []) [] found measured (nodes_only n en) long o)).1
        (both_pass (length_case 2 n r).check (Ok tt) (lengths_passed l (nodes_case n ∷ []) (length_case 2 n r ∷ []) [] found measured (nodes_only n en) long o)).0,
  )

-- ---- a call on A and R

-- its checks go on past those of its matrices
pub matrices_rest : (N : OnNetwork) (r : List ℕ) (rest : List Case) → check_of (matrices_cases N r rest) ≡ result_and (equation_check N r) (check_of rest)
matrices_rest N r rest = check_append (matrices_cases N r []) rest

pub rest_stops : (N : OnNetwork) (r : List ℕ) (rest : List Case) {x : Refusal} → equation_check N r ≡ Err x → check_of (matrices_cases N r rest) ≡ Err x
rest_stops N r rest e = matrices_rest N r rest ∙ stops _ e

pub rest_goes_on : (N : OnNetwork) (r : List ℕ) (rest : List Case) {c : Check} → equation_check N r ≡ Ok tt → check_of rest ≡ c → check_of (matrices_cases N r rest) ≡ c
rest_goes_on N r rest e q = matrices_rest N r rest ∙ goes_on e q

module _ (N : OnNetwork) (r : List ℕ) {found in_arcs in_routes measured : Check} (en : found ≡ (nodes_case N.n).check)
    (ea : in_arcs ≡ length_measured 1 N.n N.arcs) (er : in_routes ≡ length_measured 2 N.n r) (em : measured ≡ result_and in_arcs in_routes) where
  open N use {n, arcs}

  abbrev sizes : List Case
  sizes = nodes_case n ∷ []

  abbrev lengths : List Case
  lengths = length_case 1 n arcs ∷ length_case 2 n r ∷ []

  abbrev entries : List Case
  entries = arcs_case (components N) n arcs ∷ routes_case (components N) n r ∷ []

  both_long : check_of sizes ≡ Ok tt → measured ≡ check_of lengths
  both_long e = em ∙ two_checks (length_case 1 n arcs).check (length_case 2 n r).check (singles.measured 1 n arcs (nodes_found n e).1 ea) (singles.measured 2 n r (nodes_found n e).1 er)

  module _ (p : PerPlace Component) (o : Entered N.language found measured p) where
    pub squares : Square n arcs × Square n r
    squares =
        let small = (nodes_found n (sizes_passed N.language sizes lengths entries found measured (nodes_only n en) both_long o)).1 in
        let h = both_pass (length_case 1 n arcs).check _ (lengths_passed N.language sizes lengths entries found measured (nodes_only n en) both_long o) in
        (length_passed 1 n arcs small h.0, length_passed 2 n r small (both_pass (length_case 2 n r).check (Ok tt) h.1).0)

    module _ {well_a well_r well : Check} (qa : well_a ≡ (arcs_case (places_of p) n arcs).check) (qr : well_r ≡ (routes_case (places_of p) n r).check) (q : well ≡ result_and well_a well_r) where
      pub entries_then : {c : Check} → well ≡ c → equation_check N r ≡ c
      entries_then e =
          entrance_leaves N.language sizes lengths entries found measured (nodes_only n en) both_long o
          (sym (two_checks (arcs_case (components N) n arcs).check (routes_case (components N) n r).check (qa ∙ arcs_same N.language p o.in_places n arcs squares.0) (qr ∙ routes_same N.language p o.in_places n r squares.1)) ∙ sym q ∙ e)

      pub matrices_given : well ≡ Ok tt → (equation_check N r ≡ Ok tt) × Placed N.language p × Given (places_of p) n arcs r
      matrices_given e =
          let h = both_pass well_a well_r (sym q ∙ e) in
          let s = o.in_places in (
            entries_then e,
            s,
            record {
              limits = s.limits;
              sound = s.sound;
              law_d_holds = s.law_d_holds;
              law_u_holds = s.law_u_holds;
              arcs = check_formed 1 arc_sum (places_of p) n arcs squares.0 (sym qa ∙ h.0);
              routes = check_formed 2 matrix_sum (places_of p) n r squares.1 (sym qr ∙ h.1);
            },
          )
