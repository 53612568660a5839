-- The rounds of a row step: what the row holds after each arc, the test of the row, and the row put in its place.
use Prim.Native.Nat.{ℕ, ◌+◌, ◌*◌, ◌-◌, ◌≤◌, ◌<◌}
use mathlib.Core.Path.{◌≡◌, refl, sym, ap, ap₂, ◌∙◌}
use mathlib.Core.Bool.{Bool, true, false, cond}
use mathlib.Core.List.{List, ◌++◌}
use native.Mathlib.Numerals.{add-one}
use native.Mathlib.Omega.{arith}
use borrow.Author.Tests.{eqb-true}
use borrow.Rule.Slice.PartMut.{mid_of, put_mid, mid_len}
use lib.Dec.{eqb}
use lib.ListN.{length, take, drop, take-append-drop, length-append, length-drop}
use lib.Seq.{take_at, drop_at}
use Rattle.algebra.specs.Order.{pick, best_of}
use Rattle.algebra.specs.Step.{row, fresh, through, routed, step}
use Rattle.weights.specs.declared.Component.{Component}
use Rattle.weights.specs.declared.PerPlace.{PerPlace}
use Rattle.weights.specs.Sizes.{places, weight_words, arc_sum, matrix_sum, table_sum}
use Rattle.weights.specs.Weights.{Weight, none, route, join, better_of, language}
use Rattle.weights.specs.Languages.{places_of}
use Rattle.weights.specs.Values.{same}
use Rattle.weights.specs.Words.{decoded, words}
use Rattle.matrices.specs.Buffers.{row_words, matrix_words, row_in, matrix_in, Square}
use Rattle.matrices.specs.Steps.{Matrix, every, row_fits, stepped, row_solves, Given}
use Rattle.matrices.specs.Parts.{folded, low, low_at, same_at}
use Rattle.matrices.proofs.Blocks.{block_room}
use Rattle.matrices.proofs.Entries.{length_row, row_self, row_cong, row_reads, matrix_self, matrix_cong, put_row}
use Rattle.matrices.proofs.Every.{every_cong}
use Rattle.matrices.proofs.Bounds.{Within, within_weaken, within_join, within_best, within_fresh, formed_within, within_back, low_fits}

-- ---- no arc

none_stays : (cs : List Component) (w : Weight) → better_of cs w none ≡ w
unfolding pick
none_stays cs none = refl
none_stays cs (route xs) = refl

-- an arc that is no route leaves the row as it is
pub fold_none : (cs : List Component) (n : ℕ) (y : ℕ → Weight) (s : List ℕ) → n * weight_words ≤ length s → s ≡ row_words n (folded cs none y (row_in places s)) ++ drop (n * weight_words) s
fold_none cs n y s h =
    sym (take-append-drop (n * weight_words) s)
    ∙ ap (λ (l : List ℕ). l ++ drop (n * weight_words) s) (sym (row_self n s h) ∙ row_cong n _ _ (λ j hj. sym (none_stays cs (row_in places s j))))

-- ---- one arc more

-- the best over the first k arcs, and the fresh entry
abbrev pub up_to : PerPlace Component → ℕ → List ℕ → List ℕ → ℕ → Matrix
up_to p n a r k = routed (language (places_of p)) k (matrix_in places n a) (matrix_in places n r)

pub routed_none : (cs : List Component) (A R : Matrix) (i j : ℕ) → routed (language cs) 0 A R i j ≡ fresh (language cs) i j
unfolding routed best_of
routed_none cs A R i j = refl

pub routed_more : (cs : List Component) (k : ℕ) (A R : Matrix) (i j : ℕ) → routed (language cs) (k + 1) A R i j ≡ better_of cs (routed (language cs) k A R i j) (join cs (A i k) (R k j))
unfolding routed best_of
routed_more cs k A R i j = rw add-one

-- the first k arcs have been taken into the row, which was s₀
pub record Taken (p : PerPlace Component) (n : ℕ) (a r : List ℕ) (i : ℕ) (s₀ : List ℕ) (k : ℕ) (s : List ℕ) : Type 0 where
  pub holds : s ≡ row_words n (up_to p n a r k i) ++ drop (n * weight_words) s₀
  pub long : length s ≡ length s₀

pub taken_none : (p : PerPlace Component) (n : ℕ) (a r : List ℕ) (i : ℕ) (s₀ s z : List ℕ) → s ≡ row_words n (fresh (language (places_of p)) i) ++ z → s₀ ≡ s → Taken p n a r i s₀ 0 s
taken_none p n a r i s₀ s z e q = record {
  holds = e ∙ ap₂ (λ (x y : List ℕ). x ++ y) (row_cong n _ _ (λ j _. sym (routed_none (places_of p) (matrix_in places n a) (matrix_in places n r) i j)))
      (sym (ap (drop (n * weight_words)) (q ∙ e) ∙ drop_at (row_words n (fresh (language (places_of p)) i)) z (n * weight_words) (length_row n _)));
  long = ap length (sym q);
}

-- all arcs have been taken
pub taken_all : (p : PerPlace Component) (n : ℕ) (a r : List ℕ) (i : ℕ) (e s₀ : List ℕ) (k : ℕ) (s : List ℕ) → Taken p n a r i s₀ k s → k ≡ n
    → s₀ ≡ row_words n (fresh (language (places_of p)) i) ++ drop (n * weight_words) e → s ≡ row_words n (up_to p n a r n i) ++ drop (n * weight_words) e
taken_all p n a r i e s₀ k s t q h =
    t.holds
    ∙ ap₂ (λ (m : ℕ) (z : List ℕ). row_words n (up_to p n a r m i) ++ z) q
    (ap (drop (n * weight_words)) h ∙ drop_at (row_words n (fresh (language (places_of p)) i)) (drop (n * weight_words) e) (n * weight_words) (length_row n _))

module _ (p : PerPlace Component) (n : ℕ) (a r : List ℕ) (g : Given (places_of p) n a r) where
  -- what a row step works out is a weight, its sums at most 1,048,560
  pub routed_within : (i j : ℕ) → i < n → j < n → (k : ℕ) → k ≤ n → Within table_sum (places_of p) (up_to p n a r k i j)
  unfolding routed
  routed_within i j hi hj k hk =
      within_best table_sum (places_of p) k (through (language (places_of p)) (matrix_in places n a) (matrix_in places n r) i j) (fresh (language (places_of p)) i j)
      (within_weaken arc_sum table_sum (places_of p) _ (omega arith) (within_fresh arc_sum (places_of p) g.sound g.limits i j))
      (λ m hm. within_join arc_sum matrix_sum (places_of p) _ _ (formed_within arc_sum p n a (omega arith) g.limits g.arcs i m hi (omega arith)) (formed_within matrix_sum p n r (omega arith) g.limits g.routes m j (omega arith) hj))

  -- .. and is read back
  pub routed_back : (i j : ℕ) → i < n → j < n → (k : ℕ) → k ≤ n → decoded places (words (up_to p n a r k i j)) ≡ up_to p n a r k i j
  routed_back i j hi hj k hk = within_back p table_sum _ (omega arith) (routed_within i j hi hj k hk)

  pub taken_more : (i k : ℕ) → i < n → k < n → (s₀ s s' : List ℕ) → Taken p n a r i s₀ k s → n * weight_words ≤ length s
      → s' ≡ row_words n (folded (places_of p) (matrix_in places n a i k) (matrix_in places n r k) (row_in places s)) ++ drop (n * weight_words) s → Taken p n a r i s₀ (k + 1) s'
  taken_more i k hi hk s₀ s s' t len q = record {
    holds = q ∙ ap₂ (λ (x y : List ℕ). x ++ y) (row_cong n _ _ one)
        (ap (drop (n * weight_words)) t.holds ∙ drop_at (row_words n (up_to p n a r k i)) (drop (n * weight_words) s₀) (n * weight_words) (length_row n _));
    long = ap length q ∙ length-append (row_words n new) (drop (n * weight_words) s) ∙ omega (arith, length_row n new, length-drop (n * weight_words) s, t.long);
  }
    where
      new : ℕ → Weight
      new = folded (places_of p) (matrix_in places n a i k) (matrix_in places n r k) (row_in places s)

      was : (j : ℕ) → j < n → row_in places s j ≡ up_to p n a r k i j
      was j hj = ap (λ (l : List ℕ). row_in places l j) t.holds ∙ row_reads n (up_to p n a r k i) (drop (n * weight_words) s₀) j hj (routed_back i j hi hj k (omega arith))

      one : (j : ℕ) → j < n → new j ≡ up_to p n a r (k + 1) i j
      one j hj =
          ap (λ (u : Weight). better_of (places_of p) u (join (places_of p) (matrix_in places n a i k) (matrix_in places n r k j))) (was j hj)
          ∙ sym (routed_more (places_of p) k (matrix_in places n a) (matrix_in places n r) i j)

  -- ---- the row that a row step makes, in s

  module _ (i : ℕ) (hi : i < n) (s z : List ℕ) (e : s ≡ row_words n (up_to p n a r n i) ++ z) where
    pub made_entry : (j : ℕ) → j < n → row_in places s j ≡ up_to p n a r n i j
    made_entry j hj = ap (λ (l : List ℕ). row_in places l j) e ∙ row_reads n (up_to p n a r n i) z j hj (routed_back i j hi hj n (omega arith))

    -- its values are low where its sums fit
    pub made_fits : every n (low_at s) ≡ row_fits (places_of p) n (matrix_in places n a) (matrix_in places n r) i
    made_fits = every_cong _ _ n (λ j hj. ap low (made_entry j hj) ∙ low_fits (places_of p) (up_to p n a r n i j) g.limits (routed_within i j hi hj n (omega arith)).valid)

    -- it is row i of R where that row satisfies the equation
    pub made_solves : every n (same_at (row_in places s) (matrix_in places n r i)) ≡ row_solves (places_of p) n (matrix_in places n a) (matrix_in places n r) i
    made_solves = every_cong _ _ n (λ j hj. ap (λ (w : Weight). same w (matrix_in places n r i j)) (made_entry j hj))

-- ---- the row written

module _ (cs : List Component) (n : ℕ) (A : Matrix) (r : List ℕ) (i : ℕ) (square : Square n r) where
  -- the row s put in the place of row i
  put_made : i < n → (s z ys : List ℕ) → s ≡ row_words n (routed (language cs) n A (matrix_in places n r) i) ++ z → ys ≡ take (n * weight_words) s
      → take (i * (n * weight_words)) r ++ (ys ++ drop (n * weight_words) (drop (i * (n * weight_words)) r)) ≡ matrix_words n (step (language cs) n A (row i) (matrix_in places n r))
  put_made hi s z ys e f =
      let g : ℕ → Weight = routed (language cs) n A (matrix_in places n r) i in
      let q : ys ≡ row_words n g = f ∙ ap (take (n * weight_words)) e ∙ take_at (row_words n g) z (n * weight_words) (length_row n g) in
      ap (λ (l : List ℕ). take (i * (n * weight_words)) r ++ (l ++ drop (n * weight_words) (drop (i * (n * weight_words)) r))) q
      ∙ ap (λ (l : List ℕ). take (i * (n * weight_words)) l ++ (row_words n g ++ drop (n * weight_words) (drop (i * (n * weight_words)) l))) (sym (matrix_self n r square))
      ∙ put_row n (matrix_in places n r) i g hi
      ∙ matrix_cong n _ _ (λ u j _ _. one u j (eqb u i) refl)
    where
      one : (u j : ℕ) (t : Bool) → eqb u i ≡ t
          → cond t (routed (language cs) n A (matrix_in places n r) i j) (matrix_in places n r u j) ≡ cond t (routed (language cs) n A (matrix_in places n r) u j) (matrix_in places n r u j)
      one u j true q = ap (λ (v : ℕ). routed (language cs) n A (matrix_in places n r) v j) (sym (eqb-true u i q))
      one u j false q = refl

  -- the same, as the part of row i comes back from the row writer
  pub done_is : i < n → (s z ys : List ℕ) → s ≡ row_words n (routed (language cs) n A (matrix_in places n r) i) ++ z
      → ys ≡ take (length (mid_of (i * (n * weight_words)) (i * (n * weight_words) + n * weight_words - i * (n * weight_words)) r)) s → row_fits cs n A (matrix_in places n r) i ≡ true
      → put_mid (i * (n * weight_words)) (i * (n * weight_words) + n * weight_words - i * (n * weight_words)) r ys ≡ matrix_words n (stepped cs n A (matrix_in places n r) i)
  done_is hi s z ys e f t =
      let q : i * (n * weight_words) + n * weight_words - i * (n * weight_words) ≡ n * weight_words = omega arith in
      let len : length (mid_of (i * (n * weight_words)) (i * (n * weight_words) + n * weight_words - i * (n * weight_words)) r) ≡ n * weight_words = mid_len (i * (n * weight_words)) (i * (n * weight_words) + n * weight_words) r (omega (arith, block_room (n * weight_words) i n hi, square.long)) ∙ q in
      ap (λ (m : ℕ). put_mid (i * (n * weight_words)) m r ys) q
      ∙ put_made hi s z ys e (f ∙ ap (λ (m : ℕ). take m s) len)
      ∙ ap (λ (b : Bool). matrix_words n (cond b (step (language cs) n A (row i) (matrix_in places n r)) (matrix_in places n r))) (sym t)

  -- nothing is written
  pub over_is : row_fits cs n A (matrix_in places n r) i ≡ false → r ≡ matrix_words n (stepped cs n A (matrix_in places n r) i)
  over_is t =
      sym (matrix_self n r square) ∙ ap (λ (b : Bool). matrix_words n (cond b (step (language cs) n A (row i) (matrix_in places n r)) (matrix_in places n r))) (sym t)
