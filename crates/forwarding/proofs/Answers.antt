-- From what the inner functions say, in the places, to the call's own words, in the language: its answer and what its buffer holds.
use mathlib.Core.Path.{◌≡◌, sym, ap, ◌∙◌}
use mathlib.Core.List.{List}
use Prim.Native.Nat.{ℕ}
use Rattle.refusals.specs.declared.Refusal.{Refusal}
use Rattle.refusals.specs.Checks.{answer_told, Check}
use Rattle.refusals.proofs.First.{if_passed_lem, if_refused}
use Rattle.algebra.specs.Modes.{forwarded}
use Rattle.weights.specs.declared.Component.{Component}
use Rattle.weights.specs.declared.PerPlace.{PerPlace}
use Rattle.weights.specs.Sizes.{places, arc_sum}
use Rattle.weights.specs.Weights.{language}
use Rattle.weights.specs.Languages.{places_of}
use Rattle.weights.proofs.Checking.{few}
use Rattle.matrices.specs.Buffers.{matrix_in}
use Rattle.modes.specs.declared.Mode.{Mode}
use Rattle.modes.specs.Entries.{mode_of}
use Rattle.tables.specs.Tables.{table_words, table_in}
use Rattle.tables.proofs.PaddedTables.{forward_words}
use Rattle.guards.specs.OnNetwork.{components}
use Rattle.guards.specs.Entrance.{Entered}
use Rattle.forwarding.specs.Calls.{OnTables, mode_meant, routes_on, forward_check, forward_left, forwarding_sum}
use Rattle.forwarding.specs.Ready.{contents_check}
use Rattle.forwarding.proofs.Order.{Found, contents_then, routes_go, all_passed}
use Rattle.std.specs.Prelude.{Ok, Err}

module _ (T : OnTables) (f : List ℕ) where
  open T use {network, m, routes, mapping}
  open network use {n, arcs}

  abbrev cs : List Component
  cs = components network

  pub forward_refused : (x : Refusal) → forward_check T f ≡ Err x → (answer_told (Err x) ≡ answer_told (forward_check T f)) × (f ≡ forward_left T f)
  forward_refused x e = (ap answer_told (sym e), sym (if_refused (table_words n m (forwarding_sum T)) f e))

  module _ {sized measured : Check} (q : Found T f sized measured) (p : PerPlace Component) (o : Entered network.language sized measured p) {mode : Mode} (meant : mode ≡ mode_meant T)
      {contained : Check} (qc : contained ≡ contents_check mode (places_of p) n m arcs routes mapping) (e : contained ≡ Ok tt) where
    abbrev table : Mode → List Component → List ℕ
    table k ds = table_words n m (forwarded (language ds) (mode_of k ds) n (matrix_in places n routes) (table_in places m mapping))

    pub forward_done : (left : List ℕ) → left ≡ table mode (places_of p) → (answer_told (Ok tt) ≡ answer_told (forward_check T f)) × (left ≡ forward_left T f)
    forward_done left h =
        let passes = contents_then T f q p o meant qc e in (
          ap answer_told (sym passes),
          h
              ∙ ap (λ (k : Mode). table k (places_of p)) meant
              ∙ ap (table (mode_meant T)) o.in_places.placed
              ∙ forward_words cs (few network.language) (mode_meant T) n m arc_sum (routes_on T) (matrix_in places n routes) (routes_go T f q p o meant qc e) mapping (all_passed T f passes).0.formed.in_mapping
              ∙ sym (if_passed_lem (table_words n m (forwarding_sum T)) f passes),
        )
