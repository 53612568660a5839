-- The checks of forwarding: which refusal is given, and what is known once all have passed.
use Prim.Native.Nat.{ℕ, ◌≤◌}
use mathlib.Core.Path.{◌≡◌, sym, ap, ap₂, subst, ◌∙◌}
use mathlib.Core.Bool.{Bool, true, not, ◌||◌}
use mathlib.Core.List.{List, [], ◌∷◌}
use lib.ListN.{length}
use Rattle.refusals.specs.declared.Refusal.{Refusal}
use Rattle.refusals.specs.declared.Refusal.TheVariants.{Law, Equation}
use Rattle.refusals.specs.Checks.{unless, first_of, Check}
use Rattle.std.specs.Result.{result_and}
use Rattle.refusals.specs.Cases.{Case, checks_of, check_of, first_cases}
use Rattle.refusals.proofs.First.{unless_passes, both_pass, or_passed, result_and_cong, result_and_assoc, first_append, first_passes, pass_first}
use Rattle.refusals.proofs.Cases.{check_append}
use Rattle.algebra.proofs.Embedding.{GoesTo}
use Rattle.weights.specs.declared.Component.{Component}
use Rattle.weights.specs.declared.PerPlace.{PerPlace}
use Rattle.weights.specs.Sizes.{places, arc_sum, matrix_sum}
use Rattle.weights.specs.Weights.{Valid, Sound, language}
use Rattle.weights.specs.Laws.{test_d, test_u, test_c}
use Rattle.weights.specs.Languages.{count_case, limit_case, padded, places_of}
use Rattle.weights.proofs.Padding.{pad_weight, test_c_pad}
use Rattle.weights.proofs.Checking.{few, check_sound}
use Rattle.matrices.specs.Buffers.{matrix_in, Square, Formed}
use Rattle.matrices.specs.Steps.{solves, Given}
use Rattle.matrices.proofs.Malformed.{check_formed}
use Rattle.modes.specs.declared.Mode.{Mode}
use Rattle.modes.specs.Entries.{mode_for, needs_c}
use Rattle.tables.specs.Tables.{Sized, FormedTable}
use Rattle.tables.specs.Parts.{GivenTable}
use Rattle.tables.proofs.MalformedEntries as entries
use Rattle.tables.proofs.PaddedTables.{table_check_pad}
use Rattle.guards.specs.Checks.{most_nodes, nodes_case, length_case, arcs_case, routes_case}
use Rattle.guards.specs.OnNetwork.{components, arcs_on}
use Rattle.guards.proofs.Singles as singles
use Rattle.guards.specs.Entrance.{length_measured, entrance_check, Entered}
use Rattle.guards.proofs.Singles.{nodes_passed, length_passed}
use Rattle.guards.proofs.Entering.{entrance_refuses, entrance_leaves, sizes_passed, lengths_passed}
use Rattle.table_guards.specs.Checks.{most_destinations, chosen_check, destinations_case, mode_case, table_length_case, law_c_check, mapping_case, solves_case, law_c_case, table_length_measured}
use Rattle.table_guards.proofs.TableSingles.{destinations_passed, table_length_passed, law_c_passed, table_measured}
use Rattle.routes.proofs.Order.{placed_sound, arcs_same, routes_same, two_checks}
use Rattle.routes.proofs.Bridge.{buffer_goes, solves_go}
use Rattle.forwarding.specs.Calls.{OnTables, mode_meant, routes_on, forward_cases, forward_check}
use Rattle.forwarding.specs.Ready.{Measured, contents_check}
use Rattle.std.specs.Prelude.{Option, Ok, Err}

-- what the code's test of the equation tells
pub solves_told : (cs : List Component) (n : ℕ) (a r : List ℕ) (b : Bool) → b ≡ solves cs n (matrix_in (length cs) n a) (matrix_in (length cs) n r) → unless b (Equation 2 0) ≡ (solves_case cs n a r).check
solves_told cs n a r b e = ap (λ (x : Bool). unless x (Equation 2 0)) e

-- ---- A, R and M, once they have their lengths

-- no entry is malformed
pub record BuffersFormed (mode : Mode) (cs : List Component) (n m : ℕ) (a r mapping : List ℕ) : Type 0 where
  pub in_arcs : Formed arc_sum cs n a
  pub in_routes : Formed matrix_sum cs n r
  pub in_mapping : FormedTable mode arc_sum cs n m mapping

module _ (mode : Mode) (cs : List Component) (n m : ℕ) (a r mapping : List ℕ) where
  -- all of the contents but 12
  abbrev firsts : List Check
  firsts = law_c_check mode cs ∷ (arcs_case cs n a).check ∷ (routes_case cs n r).check ∷ (mapping_case mode cs n m mapping).check ∷ []

  -- .. and 12 after it
  solves_last : contents_check mode cs n m a r mapping ≡ result_and (first_of firsts) (solves_case cs n a r).check
  solves_last = first_append firsts ((solves_case cs n a r).check ∷ []) ∙ ap (result_and (first_of firsts)) (or_passed (solves_case cs n a r).check)

  firsts_formed : Square n a → Square n r → Sized n m mapping → first_of firsts ≡ Ok tt → BuffersFormed mode cs n m a r mapping
  firsts_formed qa qr qm e =
      let (ec, (ea, (er, (em, u)))) = first_passes firsts e in
      record { in_arcs = check_formed 1 arc_sum cs n a qa ea; in_routes = check_formed 2 matrix_sum cs n r qr er; in_mapping = entries.check_formed 3 mode arc_sum cs n m mapping qm em }

  -- what is known once A and R are well formed
  pub matrices_given : Measured cs n m a r mapping → Ok tt ≡ (arcs_case cs n a).check → Ok tt ≡ (routes_case cs n r).check → Given cs n a r
  matrices_given g ea er = record {
    limits = g.limits;
    sound = g.sound;
    law_d_holds = g.law_d_holds;
    law_u_holds = g.law_u_holds;
    arcs = check_formed 1 arc_sum cs n a g.in_arcs (sym ea);
    routes = check_formed 2 matrix_sum cs n r g.in_routes (sym er);
  }

-- ---- the call

module _ (T : OnTables) (f : List ℕ) where
  open T use {network, m, routes, mapping}
  open network use {n, arcs}

  abbrev cs : List Component
  cs = components network

  abbrev sizes : List Case
  sizes = nodes_case n ∷ destinations_case m ∷ mode_case cs m T.mode ∷ []

  abbrev lengths : List Case
  lengths = length_case 1 n arcs ∷ length_case 2 n routes ∷ table_length_case 3 n m mapping ∷ table_length_case 4 n m f ∷ []

  abbrev contents : List Case
  contents = law_c_case T.mode (mode_meant T) cs ∷ arcs_case cs n arcs ∷ routes_case cs n routes ∷ mapping_case (mode_meant T) cs n m mapping ∷ solves_case cs n arcs routes ∷ []

  -- there are at most 16 nodes and 32 destinations where the sizes pass
  few_of_both : check_of sizes ≡ Ok tt → (n ≤ most_nodes) × (m ≤ most_destinations)
  few_of_both e = let (en, (ed, u)) = first_passes (checks_of sizes) e in ((nodes_passed n en).1, destinations_passed m ed)

  -- what the code's checks of the sizes and of the lengths give
  pub record Found (sized measured : Check) : Type 0 where
    pub as_sizes : sized ≡ check_of sizes
    pub as_lengths : check_of sizes ≡ Ok tt → measured ≡ check_of lengths

  pub found : {chosen : (Option Mode)} {by_n by_m by_mode others sized by_arcs by_routes by_mapping by_table matrices tables measured : Check}
      → chosen ≡ mode_for cs m T.mode → by_n ≡ (nodes_case n).check → by_m ≡ (destinations_case m).check → by_mode ≡ chosen_check chosen → others ≡ result_and by_m by_mode → sized ≡ result_and by_n others
      → by_arcs ≡ length_measured 1 n arcs → by_routes ≡ length_measured 2 n routes → matrices ≡ result_and by_arcs by_routes
      → by_mapping ≡ table_length_measured 3 n m mapping → by_table ≡ table_length_measured 4 n m f → tables ≡ result_and by_mapping by_table
      → measured ≡ result_and matrices tables → Found sized measured
  found qc qn qm qk qo qs la lr lab lm lt lmt ll = record {
    as_sizes = qs ∙ ap₂ result_and qn (qo ∙ two_checks (destinations_case m).check (mode_case cs m T.mode).check qm (qk ∙ ap chosen_check qc));
    as_lengths = λ e.
        let h = few_of_both e in
        ll ∙ ap₂ result_and (lab ∙ ap₂ result_and (singles.measured 1 n arcs h.0 la) (singles.measured 2 n routes h.0 lr)) (lmt ∙ two_checks (table_length_case 3 n m mapping).check (table_length_case 4 n m f).check (table_measured 3 n m mapping h lm) (table_measured 4 n m f h lt))
        ∙ result_and_assoc (length_case 1 n arcs).check (length_case 2 n routes).check (check_of (table_length_case 3 n m mapping ∷ table_length_case 4 n m f ∷ []));
  }

  -- what the buffers are once their lengths pass
  pub record Long : Type 0 where
    pub in_arcs : Square n arcs
    pub in_routes : Square n routes
    pub in_mapping : Sized n m mapping
    pub in_table : Sized n m f

  long_enough : (n ≤ most_nodes) × (m ≤ most_destinations) → check_of lengths ≡ Ok tt → Long
  long_enough (h, k) e =
      let (ea, (er, (em, (et, u)))) = first_passes (checks_of lengths) e in
      record { in_arcs = length_passed 1 n arcs h ea; in_routes = length_passed 2 n routes h er; in_mapping = table_length_passed 3 n m mapping h k em; in_table = table_length_passed 4 n m f h k et }

  module _ {sized measured : Check} (q : Found sized measured) where
    pub forward_stops : {x : Refusal} → entrance_check network.language sized measured ≡ Err x → forward_check T f ≡ Err x
    forward_stops e = entrance_refuses network.language sizes lengths contents sized measured q.as_sizes q.as_lengths e

    module _ (p : PerPlace Component) (o : Entered network.language sized measured p) where
      pub long : Long
      long =
          long_enough (few_of_both (sizes_passed network.language sizes lengths contents sized measured q.as_sizes q.as_lengths o))
          (lengths_passed network.language sizes lengths contents sized measured q.as_sizes q.as_lengths o)

      pub forward_measured : Measured (places_of p) n m arcs routes mapping
      forward_measured =
          let s = o.in_places in
          record { limits = s.limits; sound = s.sound; law_d_holds = s.law_d_holds; law_u_holds = s.law_u_holds; in_arcs = long.in_arcs; in_routes = long.in_routes; in_mapping = long.in_mapping }

      -- ---- the contents, in the places and in the language

      module _ {mode : Mode} (meant : mode ≡ mode_meant T) where
        buffer_same : (cap : ℕ) (s : List ℕ) → Formed cap (places_of p) n s → GoesTo (language cs) (language (places_of p)) (Valid cs) (pad_weight places) n (matrix_in (length cs) n s) (matrix_in places n s)
        buffer_same cap s w = buffer_goes cs p (few network.language) o.in_places.placed (placed_sound network.language p o.in_places) n arcs cap s w

        law_c_same : law_c_check mode (places_of p) ≡ law_c_check mode cs
        law_c_same = ap (λ (b : Bool). unless (not (needs_c mode) || b) (Law 3 0)) (ap test_c o.in_places.placed ∙ test_c_pad places cs (few network.language))

        mapping_same : (mapping_case mode (places_of p) n m mapping).check ≡ (mapping_case mode cs n m mapping).check
        mapping_same = ap (λ (ds : List Component). (mapping_case mode ds n m mapping).check) o.in_places.placed ∙ table_check_pad 3 mode arc_sum cs n m mapping (few network.language) long.in_mapping

        solves_same : Formed arc_sum (places_of p) n arcs → Formed matrix_sum (places_of p) n routes → (solves_case (places_of p) n arcs routes).check ≡ (solves_case cs n arcs routes).check
        solves_same wa wr =
            ap (λ (b : Bool). unless b (Equation 2 0))
            (solves_go cs p (few network.language) o.in_places.placed (placed_sound network.language p o.in_places) n arcs (arcs_on network) (matrix_in places n arcs) (buffer_same arc_sum arcs wa) (routes_on T) (matrix_in places n routes) (buffer_same matrix_sum routes wr))

        contents_same : contents_check mode (places_of p) n m arcs routes mapping ≡ contents_check mode cs n m arcs routes mapping
        contents_same =
            let arcs_alike = arcs_same network.language p o.in_places n arcs long.in_arcs in
            let routes_alike = routes_same network.language p o.in_places n routes long.in_routes in
            result_and_cong _ _ law_c_same (λ ec. result_and_cong _ _ arcs_alike (λ ea. result_and_cong _ _ routes_alike (λ er. result_and_cong _ _ mapping_same (λ em.
            ap (λ (c : Check). result_and c (Ok tt)) (solves_same (check_formed 1 arc_sum (places_of p) n arcs long.in_arcs (arcs_alike ∙ ea)) (check_formed 2 matrix_sum (places_of p) n routes long.in_routes (routes_alike ∙ er)))))))

        module _ {contained : Check} (qc : contained ≡ contents_check mode (places_of p) n m arcs routes mapping) where
          pub contents_then : {c : Check} → contained ≡ c → forward_check T f ≡ c
          contents_then e =
              entrance_leaves network.language sizes lengths contents sized measured q.as_sizes q.as_lengths o
              (ap (λ (k : Mode). contents_check k cs n m arcs routes mapping) (sym meant) ∙ sym contents_same ∙ sym qc ∙ e)

          module _ (e : contained ≡ Ok tt) where
            placed_formed : BuffersFormed mode (places_of p) n m arcs routes mapping
            placed_formed =
                firsts_formed mode (places_of p) n m arcs routes mapping long.in_arcs long.in_routes long.in_mapping
                (both_pass (first_of (firsts mode (places_of p) n m arcs routes mapping)) _ (sym (solves_last mode (places_of p) n m arcs routes mapping) ∙ sym qc ∙ e)).0

            -- what the forwarding sum may rely on
            pub table_given : GivenTable mode (places_of p) n m routes mapping × Sized n m f
            table_given = (record { limits = o.in_places.limits; routes = placed_formed.in_routes; table = placed_formed.in_mapping }, long.in_table)

            pub routes_go : GoesTo (language cs) (language (padded places cs)) (Valid cs) (pad_weight places) n (routes_on T) (matrix_in places n routes)
            routes_go = subst (λ (ds : List Component). GoesTo (language cs) (language ds) (Valid cs) (pad_weight places) n (routes_on T) (matrix_in places n routes)) o.in_places.placed (buffer_same matrix_sum routes placed_formed.in_routes)

  -- ---- a call whose checks pass

  -- a sound and lawful language, and A, R and M well formed: all that is known where every check but 12 passes
  pub record WellGiven : Type 0 where
    pub sound : Sound cs
    pub law_d_holds : test_d cs ≡ true
    pub law_u_holds : test_u cs ≡ true
    pub law_c_holds : needs_c (mode_meant T) ≡ true → test_c cs ≡ true
    pub formed : BuffersFormed (mode_meant T) cs n m arcs routes mapping

  pub well_given : check_of (first_cases 15 (forward_cases T f)) ≡ Ok tt → WellGiven
  well_given e =
      let (en, (ed, (em, (ec, (el, (la, (lr, (lm, (lf, (u_d, (u_u, (u_c, (wa, (wr, (wm, u))))))))))))))) = first_passes (checks_of (first_cases 15 (forward_cases T f))) e in
      let w = long_enough ((nodes_passed n en).1, destinations_passed m ed) (pass_first (checks_of lengths) (la, (lr, (lm, (lf, tt))))) in
      record {
        sound = check_sound network.language (pass_first ((count_case network.language).check ∷ (limit_case network.language).check ∷ []) (ec, (el, tt)));
        law_d_holds = unless_passes (test_d cs) (Law 1 0) u_d;
        law_u_holds = unless_passes (test_u cs) (Law 2 0) u_u;
        law_c_holds = law_c_passed (mode_meant T) cs u_c;
        formed = firsts_formed (mode_meant T) cs n m arcs routes mapping w.in_arcs w.in_routes w.in_mapping (pass_first (firsts (mode_meant T) cs n m arcs routes mapping) (u_c, (wa, (wr, (wm, tt)))));
      }

  -- 12 is the last check
  pub twelve_last : forward_check T f ≡ result_and (check_of (first_cases 15 (forward_cases T f))) (solves_case cs n arcs routes).check
  twelve_last =
      check_append (first_cases 15 (forward_cases T f)) (solves_case cs n arcs routes ∷ [])
      ∙ ap (result_and (check_of (first_cases 15 (forward_cases T f)))) (or_passed (solves_case cs n arcs routes).check)

  pub all_passed : forward_check T f ≡ Ok tt → WellGiven × (solves cs n (arcs_on network) (routes_on T) ≡ true)
  all_passed e =
      let h = both_pass (check_of (first_cases 15 (forward_cases T f))) (solves_case cs n arcs routes).check (sym twelve_last ∙ e) in
      (well_given h.0, unless_passes (solves cs n (arcs_on network) (routes_on T)) (Equation 2 0) h.1)
