-- The reader's refusals as one list of cases: the buffers' lengths (9), then the file in its order (01, "File" and "Refusal numbers").
-- To be believed: in each case what it tells and where that is due, and the order. What follows the language is counted from the offset that its reading
-- gives, with the components that it gives (`language_at`). That the reader tells exactly what is due is `read_told` (proofs/Cases).
use Rattle.std.specs.Prelude.{ℕ, ◌-◌, ◌≤◌, ◌≡◌, List, [], ◌∷◌, ◌++◌, leb, length, Result, Ok, Err}
use Rattle.refusals.specs.declared.Refusal.TheVariants.{Bytes, Length}
use Rattle.refusals.specs.Cases.{Case, due_unless}
use Rattle.weights.specs.Sizes.{product_tags}
use Rattle.file_bytes.specs.Bytes.{four_at}
use Rattle.fields.specs.Nested.{nothing, language_at}
use Rattle.fields.specs.Cases.{byte_at, header_cases, nested_cases}
use Rattle.records.specs.Cases.{body_cases}
use Rattle.files.specs.File.{count_right}
use Rattle.fields.specs.declared.Taken.{Taken}
use Rattle.refusals.specs.declared.Refusal.{Refusal}

-- 9: the buffer holds fewer words than it must
abbrev pub short_case : ℕ → ℕ → List ℕ → Case
short_case which least buffer = due_unless (leb least (length buffer)) (least ≤ length buffer) (Length which) 0

-- the four bytes of the count are there, and count the bytes after them
abbrev pub CountRight : List ℕ → Type 0
CountRight s = (4 ≤ length s) × (four_at s 0 ≡ length s - 4)

-- 1: the count of bytes is wrong
abbrev pub bytes_case : List ℕ → Case
bytes_case s = due_unless (count_right s) (CountRight s) (Bytes 0) 0

-- the two lists after the language; where none was read, a tag was refused before
abbrev pub after_language_cases : List ℕ → Result Taken Refusal → List Case
after_language_cases s (Err r) = []
after_language_cases s (Ok t) = body_cases s (record { n = byte_at s 5; m = byte_at s 6; mode = byte_at s 7; language = t.found.language }) t.next

-- The cases of a file, from its count of bytes to its end.
abbrev pub file_cases : List ℕ → List Case
file_cases s = bytes_case s ∷ (header_cases s ++ (nested_cases s 8 product_tags 1 ++ after_language_cases s (language_at s 8 nothing)))

-- Of a file and the buffers A (1) and M (3): each case of the reader, in the order in which it is looked for.
abbrev pub read_cases : List ℕ → List ℕ → List ℕ → List Case
read_cases s arcs mapping = short_case 1 1024 arcs ∷ short_case 3 2560 mapping ∷ file_cases s
