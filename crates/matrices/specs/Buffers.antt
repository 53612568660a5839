-- Matrices of weights in flat buffers of words, by rows (01, "Numbers of the network"), and refusal 6 on one.
-- To be believed: all but `row_in`, by which the inner functions speak of a row.
use Rattle.std.specs.Prelude.{ℕ, zero, suc, ◌+◌, ◌*◌, ◌≤◌, ◌<◌, ◌≡◌, Bool, true, false, cond, List, [], ◌++◌, length, take, drop, Ok, Err}
use Rattle.refusals.specs.declared.Refusal.TheVariants.{Value}
use Rattle.refusals.specs.Cases.{Case}
use Rattle.weights.specs.declared.Component.{Component}
use Rattle.weights.specs.Sizes.{weight_words}
use Rattle.weights.specs.Weights.{Weight}
use Rattle.weights.specs.Words.{words, reading, is_good, decoded}
use Rattle.refusals.specs.Checks.{Check}

-- f 0, f 1, .., f (n - 1), one after the other
unfoldable pub blocks : ℕ → (ℕ → List ℕ) → List ℕ
blocks zero f = []
blocks (suc n) f = blocks n f ++ f n

-- the words of a row whose entry at j is g j
abbrev pub row_words : ℕ → (ℕ → Weight) → List ℕ
row_words n g = blocks n (λ j. words (g j))

-- The words of the n x n matrix whose entry at (i, j) is R i j, by rows.
abbrev pub matrix_words : ℕ → (ℕ → ℕ → Weight) → List ℕ
matrix_words n R = blocks n (λ i. row_words n (R i))

-- where entry (i, j) of an n x n matrix begins
abbrev pub entry_place : ℕ → ℕ → ℕ → ℕ
entry_place n i j = i * (n * weight_words) + j * weight_words

-- the words of the weight that begins at p
abbrev pub words_at : List ℕ → ℕ → List ℕ
words_at s p = take weight_words (drop p s)

-- the weight, of k values, that begins at p
unfoldable pub cell : ℕ → List ℕ → ℕ → Weight
cell k s p = decoded k (words_at s p)

-- entry j of a row
abbrev pub row_in : ℕ → List ℕ → ℕ → Weight
row_in k s j = cell k s (j * weight_words)

-- The n x n matrix in a buffer that has passed its check, its routes of k values.
abbrev pub matrix_in : ℕ → ℕ → List ℕ → ℕ → ℕ → Weight
matrix_in k n s i j = cell k s (entry_place n i j)

-- the words at p are a weight of the language, its sums at most cap
abbrev pub well_formed : ℕ → List Component → List ℕ → ℕ → Bool
well_formed cap cs s p = is_good (reading cap cs (words_at s p))

-- The first of c entries, from entry e on, whose test fails: refusal 6, at its first word.
unfoldable pub first_malformed : (ℕ → Bool) → ℕ → ℕ → ℕ → ℕ → Check
first_malformed test size which e zero = Ok tt
first_malformed test size which e (suc c) = cond (test (e * size)) (first_malformed test size which (suc e) c) (Err (Value which (e * size)))

-- the check of a matrix: its first malformed entry, by rows
abbrev pub matrix_check : ℕ → ℕ → List Component → ℕ → List ℕ → Check
matrix_check which cap cs n s = first_malformed (well_formed cap cs s) weight_words which 0 (n * n)

-- a buffer of the size of an n x n matrix
pub record Square (n : ℕ) (s : List ℕ) : Type 0 where
  pub few : n ≤ 16
  pub long : length s ≡ n * (n * weight_words)

-- a matrix without a malformed entry, its sums at most cap
pub record Formed (cap : ℕ) (cs : List Component) (n : ℕ) (s : List ℕ) : Type 0 where
  pub square : Square n s
  pub reads : (i j : ℕ) → i < n → j < n → well_formed cap cs s (entry_place n i j) ≡ true

-- the place is that of entry (row, column), which is malformed, and every entry before it, by rows, is well-formed
pub record AtFirstMalformed (cap : ℕ) (cs : List Component) (n : ℕ) (s : List ℕ) (place : ℕ) : Type 0 where
  pub row : ℕ
  pub column : ℕ
  pub row_below : row < n
  pub column_below : column < n
  pub fails : well_formed cap cs s (entry_place n row column) ≡ false
  pub before : (i j : ℕ) → i < n → j < n → i * n + j < row * n + column → well_formed cap cs s (entry_place n i j) ≡ true
  pub here : place ≡ entry_place n row column

-- refusal 6 on an n x n matrix: at its first malformed entry, by rows
abbrev pub entries_case : ℕ → ℕ → List Component → ℕ → List ℕ → Case
entries_case which cap cs n s = record { check = matrix_check which cap cs n s; tells = Value which; due = AtFirstMalformed cap cs n s }
