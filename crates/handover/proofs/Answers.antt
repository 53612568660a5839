-- From what the inner functions say to the calls' own words: which matrix lends, the row and where it stands.
use Prim.Native.Nat.{ℕ, ◌≤◌, ◌<◌}
use mathlib.Core.Path.{◌≡◌, refl, sym, ap, ◌∙◌}
use mathlib.Core.Bool.{Bool, true, false, cond}
use mathlib.Core.List.{List, []}
use Rattle.refusals.specs.declared.Refusal.{Refusal}
use Rattle.refusals.specs.Told.{told}
use Rattle.refusals.specs.Checks.{answer_told, if_passed, Check}
use Rattle.refusals.proofs.First.{first_passes}
use Rattle.refusals.proofs.OneToOne.{told_one, told_not_done}
use Rattle.algebra.specs.Best.{best}
use Rattle.algebra.proofs.Embedding.{best_goes}
use Rattle.weights.specs.declared.PerPlace.{PerPlace}
use Rattle.weights.specs.declared.Component.{Component}
use Rattle.weights.specs.Sizes.{places, arc_sum}
use Rattle.weights.specs.Weights.{Valid, language}
use Rattle.weights.specs.Languages.{places_of}
use Rattle.weights.specs.Values.{same_values}
use Rattle.weights.proofs.Padding.{pad_weight}
use Rattle.weights.proofs.Checking.{few}
use Rattle.matrices.specs.Buffers.{matrix_words, matrix_in, Square}
use Rattle.routes.proofs.Bridge.{buffer_goes, embedded, words_go}
use Rattle.guards.proofs.Singles.{nodes_passed, length_passed, node_passed}
use Rattle.handover.specs.declared.Lender.TheVariants.{Newer, Standing}
use Rattle.std.specs.Prelude.{Ok, Err}
use Rattle.handover.specs.Calls.{handover_check, best_words, is_best, LenderRow, lender_row, lender_said, row_part, lent_row, row_start, lent_start, handover_cases}
use Rattle.handover.specs.Parts.{HandoverChecked}
use Rattle.refusals.specs.Cases.{checks_of}
use Rattle.guards.specs.OnNetwork.{OnNetwork, components, arcs_on}
use Rattle.routes.proofs.Order.{placed_sound}

-- the row by what the checks and the test give
abbrev pub lender_row_by : Check → Bool → LenderRow
lender_row_by c is_new = record { told = answer_told c; buffer = if_passed c (cond is_new 2 5) 0 }

module _ (N : OnNetwork) (standing newer : List ℕ) (i : ℕ) where
  open N use {n, arcs}

  abbrev check : Check
  check = handover_check N standing newer i

  abbrev is_new : Bool
  is_new = is_best N newer

  -- ---- the lender

  module _ (p : PerPlace Component) (k : HandoverChecked N standing newer i p) {b : Bool} (q : b ≡ same_values newer (matrix_words n (best (language (places_of p)) n (matrix_in places n arcs)))) where
    -- the best weights have the same words in the places and in the language
    best_same : matrix_words n (best (language (places_of p)) n (matrix_in places n arcs)) ≡ best_words N
    best_same =
        let o = k.in_places in
        let s = placed_sound N.language p o in
        sym (words_go (components N) p (few N.language) o.placed s n arcs (best (language (components N)) n (arcs_on N)) (best (language (places_of p)) n (matrix_in places n arcs))
        (best_goes (language (components N)) (language (places_of p)) (Valid (components N)) (pad_weight places) (embedded (components N) p (few N.language) o.placed s n arcs) n (arcs_on N) (matrix_in places n arcs)
        (buffer_goes (components N) p (few N.language) o.placed s n arcs arc_sum arcs k.arcs.arcs)))

    told_by : lender_row_by (Ok tt) b ≡ lender_row N standing newer i
    told_by = ap (lender_row_by (Ok tt)) (q ∙ ap (same_values newer) best_same) ∙ ap (λ (c : Check). lender_row_by c is_new) (sym k.passes)

    pub lender_newer : b ≡ true → lender_said (Ok Newer) ≡ lender_row N standing newer i
    lender_newer t = ap (lender_row_by (Ok tt)) (sym t) ∙ told_by

    pub lender_standing : b ≡ false → lender_said (Ok Standing) ≡ lender_row N standing newer i
    lender_standing t = ap (lender_row_by (Ok tt)) (sym t) ∙ told_by

  -- ---- what the lender's answer says

  pub refused_says : (x : Refusal) → lender_said (Err x) ≡ lender_row N standing newer i → check ≡ Err x
  refused_says x e = go check refl (ap (λ (w : LenderRow). w.told) e)
    where
      go : (c : Check) → check ≡ c → told x ≡ (lender_row_by c is_new).told → check ≡ Err x
      go (Ok _) p h = absurd (told_not_done x h)
      go (Err y) p h = p ∙ ap Err (told_one y x (sym h))

  -- ---- the row

  -- both matrices have their size, and i is a node
  pub record BuffersSized : Type 0 where
    pub some : 1 ≤ n
    pub new_square : Square n newer
    pub standing_square : Square n standing
    pub node : i < n

  pub sized : check ≡ Ok tt → BuffersSized
  sized e =
      let h = first_passes (checks_of (handover_cases N standing newer i)) e in
      let few = (nodes_passed n h.0).1 in
      record {
        some = (nodes_passed n h.0).0;
        new_square = length_passed 2 n newer few h.1.1.1.1.0;
        standing_square = length_passed 5 n standing few h.1.1.1.1.1.0;
        node = node_passed 0 n i h.1.1.1.1.1.1.1.1.1.0;
      }

  pub row_refused : (x : Refusal) → lender_said (Err x) ≡ lender_row N standing newer i → [] ≡ lent_row N standing newer i
  row_refused x e = ap (λ (c : Check). if_passed c (cond is_new (row_part n i newer) (row_part n i standing)) []) (sym (refused_says x e))

  -- ---- where it stands

  module _ (v w : ℕ × ℕ) where
    pub start_refused : (x : Refusal) → lender_said (Err x) ≡ lender_row N standing newer i → v ≡ lent_start N standing newer i v w
    start_refused x e = ap (λ (c : Check). if_passed c (cond is_new (row_start n i w) (row_start n i v)) v) (sym (refused_says x e))
