-- The comparison of a buffer with a matrix, column by column. It joins the code to the test of a handover; nothing here has to be
-- believed: that all columns have the words exactly where the buffer is the words is `all_words` (proofs/Words).
use Rattle.std.specs.Prelude.{ℕ, ◌*◌, Bool, List}
use Rattle.weights.specs.Sizes.{weight_words}
use Rattle.weights.specs.Values.{same_values}
use Rattle.weights.specs.Words.{words}
use Rattle.matrices.specs.Buffers.{words_at, entry_place}
use Rattle.matrices.specs.Steps.{Matrix, every}

-- entry (i, j) of the buffer has the words of entry i of a column
abbrev pub held_at : ℕ → List ℕ → List ℕ → ℕ → ℕ → Bool
held_at n s entries j i = same_values (words_at s (entry_place n i j)) (words_at entries (i * weight_words))

-- entry (i, j) of the buffer has the words of R(i, j)
abbrev pub entry_has : ℕ → List ℕ → Matrix → ℕ → ℕ → Bool
entry_has n s R j i = same_values (words_at s (entry_place n i j)) (words (R i j))

-- column j of the buffer has the words of column j of R
abbrev pub column_has : ℕ → List ℕ → Matrix → ℕ → Bool
column_has n s R j = every n (entry_has n s R j)

-- every column of the buffer has the words of that column of R
abbrev pub all_have : ℕ → List ℕ → Matrix → Bool
all_have n s R = every n (column_has n s R)
