-- Where a row of a matrix stands, and what its part of the buffer is.
use Prim.Native.Nat.{ℕ, ◌+◌, ◌*◌, ◌-◌}
use mathlib.Core.Path.{◌≡◌, ap}
use mathlib.Core.List.{List}
use native.Mathlib.Nat.{add_comm, zero-add, add-sub_cancel_left}
use lib.ListN.{take, drop}
use Rattle.weights.specs.Sizes.{weight_words}
use Rattle.handover.specs.Calls.{row_part, row_start}

-- the part from row i's beginning to its end is row i, and it stands in the matrix
pub row_words_lem : (n i : ℕ) (s : List ℕ) → take (i * (n * weight_words) + n * weight_words - i * (n * weight_words)) (drop (i * (n * weight_words)) s) ≡ row_part n i s
row_words_lem n i s = ap (λ (m : ℕ). take m (drop (i * (n * weight_words)) s)) (add-sub_cancel_left (i * (n * weight_words)) (n * weight_words))

pub row_start_lem : (n i : ℕ) (start : ℕ × ℕ) → (start.0, i * (n * weight_words) * 4 + start.1) ≡ row_start n i start
row_start_lem n i start = ap (λ (m : ℕ). (start.0, m)) (add_comm (i * (n * weight_words) * 4) start.1)

-- the empty part at a matrix's beginning stands there
pub empty_start : (start : ℕ × ℕ) → (start.0, 0 + start.1) ≡ start
empty_start start = ap (λ (m : ℕ). (start.0, m)) (zero-add start.1)
