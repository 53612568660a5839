-- What a settle makes of a column, pass by pass, and the column put in its place.
-- They join the code to the steps of `algebra`; nothing here has to be believed.
use Rattle.std.specs.Prelude.{ℕ, zero, suc, ◌*◌, ◌≤◌, ◌<◌, cond, List, eqb, length}
use Rattle.algebra.specs.Algebra.{order}
use Rattle.algebra.specs.Order.{best_of}
use Rattle.algebra.specs.Step.{fresh}
use Rattle.weights.specs.declared.Component.{Component}
use Rattle.weights.specs.Sizes.{places, weight_words}
use Rattle.weights.specs.Weights.{Weight, Valid, join, language}
use Rattle.weights.specs.Values.{AtMost}
use Rattle.matrices.specs.Buffers.{row_in}
use Rattle.matrices.specs.Steps.{Matrix}

-- column j of a matrix
abbrev pub column : Matrix → ℕ → ℕ → Weight
column R j i = R i j

-- the weight from i by way of k, where the column c holds what is known from k
abbrev pub via : List Component → Matrix → (ℕ → Weight) → ℕ → ℕ → Weight
via cs A c i k = join cs (A i k) (c k)

-- what a row step of row i makes of the column c with target j
abbrev pub renewed : List Component → ℕ → Matrix → ℕ → (ℕ → Weight) → ℕ → Weight
renewed cs n A j c i = best_of (order (language cs)) n (via cs A c i) (fresh (language cs) i j)

-- the row steps 0 .. m - 1, in order, on a column
unfoldable pub passed : List Component → ℕ → Matrix → ℕ → ℕ → (ℕ → Weight) → ℕ → Weight
passed cs n A j zero c i = c i
passed cs n A j (suc m) c i = cond (eqb i m) (renewed cs n A j (passed cs n A j m c) i) (passed cs n A j m c i)

-- R with column j replaced
abbrev pub set_column : ℕ → (ℕ → Weight) → Matrix → Matrix
set_column j g R i v = cond (eqb v j) (g i) (R i v)

-- a column of weights, no value above cap, in the front of s
pub record Held (cap : ℕ) (cs : List Component) (n : ℕ) (s : List ℕ) : Type 0 where
  pub room : n * weight_words ≤ length s
  pub valid : (i : ℕ) → i < n → Valid cs (row_in places s i)
  pub small : (i : ℕ) → i < n → AtMost cap (row_in places s i)
