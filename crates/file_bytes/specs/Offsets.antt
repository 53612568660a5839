-- Offsets that fit their type: two lists of at most 65,535 records lie below two million.
-- They join the code to the other definitions; nothing here has to be believed.
use Rattle.std.specs.Prelude.{ℕ, ◌≤◌}

-- an offset of a byte: at most 2,000,000
abbrev pub ByteOffset : ℕ → Type 0
ByteOffset at = at ≤ 2000000

-- an offset of a record: at most 1,800,000
abbrev pub RecordOffset : ℕ → Type 0
RecordOffset at = at ≤ 1800000
