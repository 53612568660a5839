-- A done call of forward leaves a table that is the forwarding sum, satisfies the forwarding equation, has its sums within 1,048,560,
-- and is the best over paths where R is.
use Prim.Native.Nat.{ℕ, zero, suc, ◌≤◌, ◌<◌}
use mathlib.Core.Path.{◌≡◌, sym, ap, subst, ◌∙◌}
use mathlib.Core.Bool.{cond}
use mathlib.Core.List.{List, [], ◌∷◌}
use native.Mathlib.Omega.{arith}
use lib.Dec.{ltb}
use lib.ListN.{length}
use Rattle.refusals.proofs.First.{if_passed_lem}
use Rattle.algebra.specs.Path.{ValidMatrix}
use Rattle.algebra.specs.Step.{Solves}
use Rattle.algebra.specs.Modes.{ValidTable, carried, forwarded, onward, Forwards, BestForwarded}
use Rattle.algebra.proofs.Embedding.{GoesTo}
use Rattle.algebra.proofs.Orders.{best_of_same}
use Rattle.weights.specs.declared.Component.{Component}
use Rattle.weights.specs.declared.Component.TheVariants.{Class}
use Rattle.weights.specs.declared.Language.{Language}
use Rattle.weights.specs.declared.PerPlace.{PerPlace}
use Rattle.weights.specs.Sizes.{places, arc_sum, matrix_sum, table_sum}
use Rattle.weights.specs.Weights.{Valid, language}
use Rattle.weights.specs.Languages.{components_of, padded, places_of, SmallLimits}
use Rattle.weights.proofs.Checking.{few, placed_is}
use Rattle.weights.proofs.Padding.{pad_weight}
use Rattle.weights.proofs.Readings.{well_read}
use Rattle.weights.specs.Sums.{sum_at}
use Rattle.weights.proofs.Sums.{well_sum}
use Rattle.matrices.specs.Buffers.{cell, words_at, entry_place, matrix_in, Formed}
use Rattle.matrices.proofs.Every.{solves_exactly}
use Rattle.matrices.proofs.Malformed.{check_formed, formed_check}
use Rattle.modes.specs.declared.Mode.{Mode}
use Rattle.modes.specs.Entries.{Entry, mode_of, ValidT, ValidEntry}
use Rattle.tables.specs.Tables.{table_words, table_place, entry_at, table_in, decoded_entry, FormedTable}
use Rattle.tables.specs.Parts.{GivenTable}
use Rattle.modes.specs.Gains.{weight_in}
use Rattle.modes.proofs.EntrySums.{forwarded_sum}
use Rattle.tables.proofs.Forwarded.{sum_formed as places_formed}
use Rattle.tables.proofs.Padded.{PadsTo, forwarded_pad}
use Rattle.tables.proofs.PaddedTables.{table_formed_pad, table_pads, forward_words}
use Rattle.modes.proofs.SemiModules.{language_forwards, language_forwarded_best}
use Rattle.tables.proofs.TableBlocks.{table_five}
use Rattle.routes.proofs.Bridge.{check_pad, entry_valid, entry_padded}
use Rattle.guards.specs.OnNetwork.{components, arcs_on}
use Rattle.forwarding.specs.Calls.{OnTables, table_of, routes_on, mapping_on, mode_meant, forward_check, forwarding_sum, forward_left}
use Rattle.forwarding.proofs.Order.{BuffersFormed, WellGiven, all_passed}
use Rattle.forwarded.specs.Table.{left, EveryRouteBest, TableSays}
use Rattle.forwarded.proofs.ReadBack.{entry_back, entry_sum}
use Rattle.std.specs.Prelude.{Ok}

-- ---- the places of a language

abbrev places_for : Language → PerPlace Component
places_for l = record { first = cond (ltb 0 l.count) l.first (Class 0); second = cond (ltb 1 l.count) l.second (Class 0); third = cond (ltb 2 l.count) l.third (Class 0); fourth = cond (ltb 3 l.count) l.fourth (Class 0) }

placed : (l : Language) → places_of (places_for l) ≡ padded places (components_of l)
placed l = placed_is l.count l.first l.second l.third l.fourth

small_padded : (n : ℕ) (cs : List Component) → SmallLimits 65535 cs → SmallLimits 65535 (padded n cs)
small_padded zero cs h = tt
small_padded (suc n) [] h = (omega arith, small_padded n [] tt)
small_padded (suc n) (c ∷ cs) h = (h.0, small_padded n cs h.1)

module _ (T : OnTables) (f : List ℕ) where
  open T use {network, m, routes, mapping}
  open network use {n, arcs}

  abbrev cs : List Component
  cs = components network

  abbrev mode : Mode
  mode = mode_meant T

  -- ---- what passed checks say

  -- A, R and M are of the language
  module _ (w : BuffersFormed mode cs n m arcs routes mapping) where
    arcs_valid : ValidMatrix (language cs) n (arcs_on network)
    arcs_valid = entry_valid arc_sum cs n arcs (few network.language) w.in_arcs

    routes_valid : ValidMatrix (language cs) n (routes_on T)
    routes_valid = entry_valid matrix_sum cs n routes (few network.language) w.in_routes

    routes_go : GoesTo (language cs) (language (padded places cs)) (Valid cs) (pad_weight places) n (routes_on T) (matrix_in places n routes)
    routes_go i j hi hj = record { kind = routes_valid i j hi hj; to = entry_padded matrix_sum cs n routes (few network.language) w.in_routes i j hi hj }

    mapping_pads : PadsTo places cs (few network.language) mode n m (mapping_on T) (table_in places m mapping)
    mapping_pads = table_pads cs (few network.language) mode arc_sum n m mapping w.in_mapping

    mapping_valid : ValidTable (language cs) (mode_of mode cs) n m (mapping_on T)
    mapping_valid i d hi hd = (mapping_pads i d hi hd).kind

    sum_valid : (i d : ℕ) → i < n → d < m → ValidEntry (ValidT mode) cs (forwarding_sum T i d)
    sum_valid i d hi hd = (forwarded_pad places cs (few network.language) mode n m (routes_on T) (matrix_in places n routes) routes_go (mapping_on T) (table_in places m mapping) mapping_pads i d hi hd).kind

    -- the words of the sum stand for it
    sum_reads : (i d : ℕ) → i < n → d < m → table_of T (table_words n m (forwarding_sum T)) i d ≡ forwarding_sum T i d
    unfolding table_in
    sum_reads i d hi hd = ap (decoded_entry (length cs)) (table_five n m (forwarding_sum T) i d hi hd) ∙ entry_back mode cs (forwarding_sum T i d) (few network.language) (sum_valid i d hi hd)

    route_sum : (c i k : ℕ) → i < n → k < n → sum_at cs c (routes_on T i k) ≤ matrix_sum
    unfolding cell
    route_sum c i k hi hk = well_sum matrix_sum cs c (words_at routes (entry_place n i k)) (well_read matrix_sum cs (words_at routes (entry_place n i k)) (w.in_routes.reads i k hi hk))

    mapping_sum : (c k d : ℕ) → k < n → d < m → sum_at cs c (weight_in (mapping_on T k d)) ≤ arc_sum
    unfolding table_in
    mapping_sum c k d hk hd = entry_sum mode arc_sum cs c (entry_at mapping (table_place m k d)) (few network.language) (w.in_mapping.reads k d hk hd)

    -- ---- the words of the sum, limits being 16-bit numbers

    routes_padded : Formed matrix_sum (padded places cs) n routes
    routes_padded =
        let square = w.in_routes.square in
        check_formed 2 matrix_sum (padded places cs) n routes square (check_pad 2 matrix_sum cs n routes (few network.language) square ∙ formed_check 2 matrix_sum cs n routes square w.in_routes)

    abbrev sum_placed : List Component → List ℕ
    sum_placed ds = table_words n m (forwarded (language ds) (mode_of mode ds) n (matrix_in places n routes) (table_in places m mapping))

    sum_formed : SmallLimits 65535 cs → FormedTable mode table_sum cs n m (table_words n m (forwarding_sum T))
    sum_formed h =
        let p = places_for network.language in
        let given : GivenTable mode (places_of p) n m routes mapping = record {
          limits = subst (SmallLimits 65535) (sym (placed network.language)) (small_padded places cs h);
          routes = subst (λ (ds : List Component). Formed matrix_sum ds n routes) (sym (placed network.language)) routes_padded;
          table = subst (λ (ds : List Component). FormedTable mode arc_sum ds n m mapping) (sym (placed network.language)) ((table_formed_pad cs (few network.language) mode arc_sum n m mapping).0 w.in_mapping);
        } in
        let words : sum_placed (places_of p) ≡ table_words n m (forwarding_sum T)
        = ap sum_placed (placed network.language) ∙ forward_words cs (few network.language) mode n m arc_sum (routes_on T) (matrix_in places n routes) routes_go mapping w.in_mapping in
        subst (FormedTable mode table_sum cs n m) words
        ((table_formed_pad cs (few network.language) mode table_sum n m (sum_placed (places_of p))).1
        (subst (λ (ds : List Component). FormedTable mode table_sum ds n m (sum_placed (places_of p))) (placed network.language) (places_formed mode p n m routes mapping given)))

  -- ---- a done call

  module _ (e : forward_check T f ≡ Ok tt) where
    ready : WellGiven T f
    ready = (all_passed T f e).0

    holds : forward_left T f ≡ table_words n m (forwarding_sum T)
    holds = if_passed_lem (table_words n m (forwarding_sum T)) f e

    -- the buffer holds the forwarding sum
    pub forward_sum : (i d : ℕ) → i < n → d < m → left T f i d ≡ forwarding_sum T i d
    forward_sum i d hi hd = ap (λ (ws : List ℕ). table_of T ws i d) holds ∙ sum_reads ready.formed i d hi hd

    solved : Solves (language cs) n (arcs_on network) (routes_on T)
    solved = (solves_exactly cs n (arcs_on network) (routes_on T)).0 (all_passed T f e).1

    -- F = (A applied to F) best M
    pub forward_equation : Forwards (language cs) (mode_of mode cs) n m (arcs_on network) (mapping_on T) (left T f)
    unfolding onward
    forward_equation i d hi hd =
        forward_sum i d hi hd
        ∙ language_forwards mode cs ready.sound ready.law_d_holds ready.law_u_holds ready.law_c_holds n m (arcs_on network) (arcs_valid ready.formed) (mapping_on T) (mapping_valid ready.formed)
        (routes_on T) (routes_valid ready.formed) solved i d hi hd
        ∙ best_of_same (mode_of mode cs).entries n (carried (language cs) (mode_of mode cs) (arcs_on network) (forwarding_sum T) i d) (carried (language cs) (mode_of mode cs) (arcs_on network) (left T f) i d) (mapping_on T i d)
        (λ k hk. ap ((mode_of mode cs).apply (arcs_on network i k)) (sym (forward_sum k d hk hd)))

    -- every sum stored is at most 1,048,560
    pub forward_sums : (c i d : ℕ) → i < n → d < m → sum_at cs c (weight_in (left T f i d)) ≤ table_sum
    forward_sums c i d hi hd = subst (λ (x : Entry). sum_at cs c (weight_in x) ≤ table_sum) (sym (forward_sum i d hi hd))
        (forwarded_sum cs c mode n m (routes_on T) (mapping_on T) (route_sum ready.formed c) (mapping_sum ready.formed c) i d hi hd)

    -- where R holds the best weights, F does
    pub forward_best : EveryRouteBest network routes → (i d : ℕ) → i < n → d < m
        → BestForwarded (language cs) (mode_of mode cs) n (arcs_on network) (mapping_on T) i d (left T f i d)
    forward_best b i d hi hd =
        subst (BestForwarded (language cs) (mode_of mode cs) n (arcs_on network) (mapping_on T) i d) (sym (forward_sum i d hi hd))
        (language_forwarded_best mode cs ready.sound ready.law_d_holds ready.law_u_holds ready.law_c_holds n m (arcs_on network) (arcs_valid ready.formed) (mapping_on T) (mapping_valid ready.formed) (routes_on T) b i d hi hd)

    -- all of it
    pub forward_says : SmallLimits 65535 cs → TableSays T f
    forward_says h = record {
      sum = forward_sum;
      equation = forward_equation;
      formed = subst (FormedTable mode table_sum cs n m) (sym holds) (sum_formed ready.formed h);
      best = forward_best;
    }
