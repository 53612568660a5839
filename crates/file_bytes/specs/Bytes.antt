-- Bytes of a file by their offset (01, "File": big-endian). A byte past the end counts as 0: that a field is there is a check.
-- To be believed: all of it.
use Rattle.std.specs.Prelude.{ℕ, ◌+◌, ◌*◌, List, get_or}

-- two bytes, the first the larger
unfoldable pub two_at : List ℕ → ℕ → ℕ
two_at s at = get_or s at 0 * 256 + get_or s (at + 1) 0

-- four bytes, the first the largest
abbrev pub four_at : List ℕ → ℕ → ℕ
four_at s at = two_at s at * 65536 + two_at s (at + 2)
