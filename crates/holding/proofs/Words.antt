-- Comparing words: four at a place, a column, a matrix.
use Prim.Native.Nat.{ℕ, ◌+◌, ◌*◌, ◌≤◌, ◌<◌}
use mathlib.Core.Path.{◌≡◌, refl, sym, ap, ap₂, ◌∙◌}
use mathlib.Core.Bool.{Bool, true, false, ◌&&◌, and-true}
use mathlib.Core.List.{List, ◌++◌}
use mathlib.Core.Logic.{◌↔◌}
use native.Mathlib.Omega.{arith}
use lib.Dec.{eqb}
use lib.ListN.{length, get_or}
use borrow.Author.Tests.{eq-eqb, ne_eqb}
use Rattle.weights.specs.Sizes.{weight_words}
use Rattle.weights.specs.Weights.{route}
use Rattle.weights.specs.Values.{same_values}
use Rattle.weights.specs.Words.{words}
use Rattle.weights.proofs.Buffers.{four_words_lem}
use Rattle.weights.proofs.Compared.{same_exactly}
use Rattle.weights.proofs.Ordering.{clash}
use Rattle.matrices.specs.Buffers.{row_words, matrix_words, words_at, entry_place, Square}
use Rattle.matrices.specs.Steps.{Matrix, every}
use Rattle.columns.specs.Columns.{column}
use Rattle.matrices.proofs.Blocks.{place_room, square_small, block_room, front_at, blocks_cong}
use Rattle.matrices.proofs.Entries.{length_words, words_cell, matrix_self, matrix_four}
use Rattle.matrices.proofs.Every.{every_cong, every_at, every_all}
use Rattle.holding.specs.Holding.{held_at, entry_has, column_has, all_have}

-- ---- four words

module _ (s t : List ℕ) (at from : ℕ) (h : at + weight_words ≤ length s) (k : from + weight_words ≤ length t) where
  abbrev tests : Bool
  tests = eqb (get_or s at 0) (get_or t from 0) && (eqb (get_or s (at + 1) 0) (get_or t (from + 1) 0) && (eqb (get_or s (at + 2) 0) (get_or t (from + 2) 0) && (eqb (get_or s (at + 3) 0) (get_or t (from + 3) 0) && true)))

  four : same_values (words_at s at) (words_at t from) ≡ tests
  four = ap₂ same_values (four_words_lem s at h) (four_words_lem t from k)

  pub first_differs : (get_or s at 0 ≡ get_or t from 0 → ⊥) → false ≡ same_values (words_at s at) (words_at t from)
  first_differs d = sym (four ∙ rw (ne_eqb (get_or s at 0) (get_or t from 0) d))

  module _ (a : get_or s at 0 ≡ get_or t from 0) where
    pub second_differs : (get_or s (at + 1) 0 ≡ get_or t (from + 1) 0 → ⊥) → false ≡ same_values (words_at s at) (words_at t from)
    second_differs d = sym (four ∙ rw (eq-eqb (get_or s at 0) (get_or t from 0) a, ne_eqb (get_or s (at + 1) 0) (get_or t (from + 1) 0) d))

    module _ (b : get_or s (at + 1) 0 ≡ get_or t (from + 1) 0) where
      pub third_differs : (get_or s (at + 2) 0 ≡ get_or t (from + 2) 0 → ⊥) → false ≡ same_values (words_at s at) (words_at t from)
      third_differs d = sym (four ∙ rw (eq-eqb (get_or s at 0) (get_or t from 0) a, eq-eqb (get_or s (at + 1) 0) (get_or t (from + 1) 0) b, ne_eqb (get_or s (at + 2) 0) (get_or t (from + 2) 0) d))

      pub fourth_decides : get_or s (at + 2) 0 ≡ get_or t (from + 2) 0 → eqb (get_or s (at + 3) 0) (get_or t (from + 3) 0) ≡ same_values (words_at s at) (words_at t from)
      fourth_decides c =
          sym (four ∙ rw (eq-eqb (get_or s at 0) (get_or t from 0) a, eq-eqb (get_or s (at + 1) 0) (get_or t (from + 1) 0) b, eq-eqb (get_or s (at + 2) 0) (get_or t (from + 2) 0) c) (and-true (eqb (get_or s (at + 3) 0) (get_or t (from + 3) 0))))

-- the test of words decides equality
pub words_exactly : (xs ys : List ℕ) → (same_values xs ys ≡ true) ↔ (xs ≡ ys)
words_exactly xs ys = (λ e. values ((same_exactly (route xs) (route ys)).0 e), λ e. (same_exactly (route xs) (route ys)).1 (ap route e))
  where
    values : route xs ≡ route ys → xs ≡ ys
    values e = cc

-- ---- a column

-- an entry lies within the matrix, and within the column; the matrix is small
pub rooms : (n i j : ℕ) (s t : List ℕ) → Square n s → n * weight_words ≤ length t → i < n → j < n → (entry_place n i j + weight_words ≤ length s) × (length s ≤ 1024) × (i * weight_words + weight_words ≤ length t)
rooms n i j s t q h hi hj = (omega (arith, place_room n i j hi hj, q.long), omega (arith, square_small n q.few, q.long), omega (arith, block_room weight_words i n hi))

-- what a column made of weights holds at i are the words of its weight there
pub column_has_lem : (n : ℕ) (s t z : List ℕ) (R : Matrix) (j : ℕ) → t ≡ row_words n (column R j) ++ z → every n (held_at n s t j) ≡ column_has n s R j
column_has_lem n s t z R j e =
    every_cong (held_at n s t j) (entry_has n s R j) n (λ i hi. ap (same_values (words_at s (entry_place n i j)))
    (ap (λ (l : List ℕ). words_at l (i * weight_words)) e ∙ front_at weight_words (λ i. words (R i j)) (λ i. length_words (R i j)) n i z hi))

-- ---- a matrix

either : (a b : Bool) → (a ≡ true → b ≡ true) → (b ≡ true → a ≡ true) → a ≡ b
either true true f g = refl
either false false f g = refl
either true false f g = clash false (f refl) refl
either false true f g = clash false (g refl) refl

module _ (n : ℕ) (s : List ℕ) (q : Square n s) (R : Matrix) where
  entries_words : ((i j : ℕ) → i < n → j < n → words_at s (entry_place n i j) ≡ words (R i j)) → s ≡ matrix_words n R
  entries_words e =
      sym (matrix_self n s q) ∙ blocks_cong _ _ n (λ i hi. blocks_cong _ _ n (λ j hj. words_cell s (entry_place n i j) (omega (arith, place_room n i j hi hj, q.long)) ∙ e i j hi hj))

  -- column by column the entries have the words of R exactly when the buffer is the words of R
  pub all_words : all_have n s R ≡ same_values s (matrix_words n R)
  all_words = either (all_have n s R) (same_values s (matrix_words n R)) there back
    where
      there : all_have n s R ≡ true → same_values s (matrix_words n R) ≡ true
      there e = (words_exactly s (matrix_words n R)).1 (entries_words (λ i j hi hj. (words_exactly (words_at s (entry_place n i j)) (words (R i j))).0 (every_at (entry_has n s R j) n (every_at (column_has n s R) n e j hj) i hi)))

      back : same_values s (matrix_words n R) ≡ true → all_have n s R ≡ true
      back e = every_all (column_has n s R) n (λ j hj. every_all (entry_has n s R j) n (λ i hi.
          (words_exactly (words_at s (entry_place n i j)) (words (R i j))).1 (ap (λ (l : List ℕ). words_at l (entry_place n i j)) ((words_exactly s (matrix_words n R)).0 e) ∙ matrix_four n R i j hi hj)))
