-- The fresh row: words of no route, with the unit written over the entry on the diagonal.
use mathlib.Core.Path.{◌≡◌, refl, sym, ap, ◌∙◌}
use mathlib.Core.List.{List, ◌++◌}
use mathlib.Core.Bool.{Bool, true, false, cond}
use Prim.Native.Nat.{ℕ, zero, suc, ◌+◌, ◌*◌, ◌≤◌, ◌<◌}
use native.Mathlib.Omega.{arith}
use borrow.Author.Tests.{eqb-true, eq-eqb, ne_eqb}
use lib.Dec.{eqb}
use lib.ListN.{length, take, drop, replicate, length-append}
use lib.Seq.{sets, length-take-le}
use Rattle.std.proofs.lemmas.Bool.{true≢false}
use Rattle.std.proofs.lemmas.List.{replicate-append-replicate}
use Rattle.algebra.specs.Step.{fresh}
use Rattle.weights.specs.declared.Component.{Component}
use Rattle.weights.specs.Sizes.{weight_words, ones}
use Rattle.weights.specs.Weights.{Weight, none, language}
use Rattle.weights.specs.Words.{words}
use Rattle.matrices.specs.Buffers.{blocks, row_words}
use Rattle.matrices.proofs.Blocks.{blocks_cong, front_put}
use Rattle.matrices.proofs.Entries.{length_words, length_row, write_is}

-- a row without a route
abbrev pub empty : ℕ → Weight
empty j = none

pub empty_words : (n : ℕ) → row_words n empty ≡ replicate (n * weight_words) ones
unfolding blocks words
empty_words zero = refl
empty_words (suc n) =
    let more : n * weight_words + weight_words ≡ suc n * weight_words = omega arith in
    ap (λ (l : List ℕ). l ++ replicate weight_words ones) (empty_words n)
    ∙ replicate-append-replicate (n * weight_words) weight_words ones
    ∙ ap (λ (k : ℕ). replicate k ones) more

module _ (cs : List Component) (i : ℕ) where
  -- an entry off the diagonal
  off_diagonal : (j : ℕ) → (i ≡ j → ⊥) → fresh (language cs) i j ≡ none
  off_diagonal j h = rw (ne_eqb i j h) refl

  at_diagonal : (j : ℕ) (t : Bool) → eqb j i ≡ t → cond t (words (fresh (language cs) i i)) (words none) ≡ words (fresh (language cs) i j)
  at_diagonal j true e = ap (λ (k : ℕ). words (fresh (language cs) i k)) (sym (eqb-true j i e))
  at_diagonal j false e = ap words (sym (off_diagonal j (λ q. true≢false (sym (eq-eqb j i (sym q)) ∙ e))))

  -- the unit is written at i
  pub unit_written : (n : ℕ) (z : List ℕ) → i < n
      → take (i * weight_words) (row_words n empty ++ z) ++ (words (fresh (language cs) i i) ++ drop weight_words (drop (i * weight_words) (row_words n empty ++ z))) ≡ row_words n (fresh (language cs) i) ++ z
  unit_written n z h =
      front_put weight_words (λ j. words none) (λ j. length_words none) (words (fresh (language cs) i i)) n i z h
      ∙ ap (λ (l : List ℕ). l ++ z) (blocks_cong _ _ n (λ j _. at_diagonal j (eqb j i) refl))

  -- there is no entry i
  pub unit_past : (n : ℕ) → n ≤ i → row_words n empty ≡ row_words n (fresh (language cs) i)
  unit_past n h = blocks_cong _ _ n (λ j hj. ap words (sym (off_diagonal j (λ e. absurd (omega (arith, e, h, hj))))))

-- the first n entries of a row, filled with ones, hold no route
pub row_filled : (n : ℕ) (row part : List ℕ) → n * weight_words ≤ length row → part ≡ replicate (length (take (n * weight_words) row)) ones
    → part ++ drop (n * weight_words) row ≡ row_words n empty ++ drop (n * weight_words) row
row_filled n row part h e =
    ap (λ (l : List ℕ). l ++ drop (n * weight_words) row)
    (e ∙ ap (λ (k : ℕ). replicate k ones) (length-take-le (n * weight_words) row h) ∙ sym (empty_words n))

module _ (cs : List Component) (i n : ℕ) (row part : List ℕ) (long : n * weight_words ≤ length row) (e : part ≡ replicate (length (take (n * weight_words) row)) ones) where
  -- the fresh row, where it has the entry on the diagonal
  pub fresh_with : (left : List ℕ) (w : Weight) → i < n → left ≡ sets (part ++ drop (n * weight_words) row) (i * weight_words) (words w) → w ≡ fresh (language cs) i i
      → left ≡ row_words n (fresh (language cs) i) ++ drop (n * weight_words) row
  fresh_with left w h f g =
      let z = drop (n * weight_words) row in
      let room : i * weight_words + weight_words ≤ length (row_words n empty ++ z) = omega (arith, length-append (row_words n empty) z, length_row n empty) in
      f ∙ ap (λ (l : List ℕ). sets l (i * weight_words) (words w)) (row_filled n row part long e)
      ∙ ap (λ (x : Weight). sets (row_words n empty ++ z) (i * weight_words) (words x)) g
      ∙ write_is (row_words n empty ++ z) (i * weight_words) _ room
      ∙ unit_written cs i n z h

  -- and where it has none
  pub fresh_without : n ≤ i → part ++ drop (n * weight_words) row ≡ row_words n (fresh (language cs) i) ++ drop (n * weight_words) row
  fresh_without h = row_filled n row part long e ∙ ap (λ (l : List ℕ). l ++ drop (n * weight_words) row) (unit_past cs i n h)
