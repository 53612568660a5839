-- The reader's cases of the two lists, in the order of the file; in a record 1, 7, 8, 6 (01, "File" and "Refusal numbers").
-- To be believed: in each case what it tells and where that is due, which is said in words, and the order. That Records refuses exactly so is proved
-- (proofs/Cases).
use Rattle.std.specs.Prelude.{ℕ, zero, suc, ◌+◌, ◌≤◌, ◌<◌, List, [], ◌∷◌, ◌++◌, ltb, leb, length}
use Rattle.refusals.specs.declared.Refusal.TheVariants.{Bytes, Value, NoSuch, NotAscending}
use Rattle.refusals.specs.Cases.{Case, due_unless}
use Rattle.weights.specs.declared.Component.{Component}
use Rattle.weights.specs.Sizes.{arc_sum}
use Rattle.weights.specs.Weights.{ValidValue}
use Rattle.weights.specs.Sums.{sum_here}
use Rattle.weights.specs.Languages.{components_of}
use Rattle.weights.specs.Words.{in_range}
use Rattle.file_bytes.specs.Bytes.{two_at}
use Rattle.fields.specs.declared.Head.{Head}
use Rattle.fields.specs.Cases.{byte_at, cut_case}
use Rattle.records.specs.declared.Listing.{Listing}
use Rattle.records.specs.declared.Listing.TheVariants.{Arcs, Attachments}
use Rattle.records.specs.Records.{length_of, list_end}

-- ---- one record

-- 7: the byte at an offset is not one of the first count nodes or destinations
abbrev pub end_case : List ℕ → ℕ → ℕ → Case
end_case s at count = due_unless (ltb (byte_at s at) count) (byte_at s at < count) (NoSuch 0) at

-- the second byte of an arc is a node, of an attachment a destination
abbrev pub seconds : Head → Listing → ℕ
seconds h Arcs = h.n
seconds h Attachments = h.m

-- 8: the first two bytes are not above those of the record before, which are below low
abbrev pub ascend_case : List ℕ → ℕ → ℕ → Case
ascend_case s at low = due_unless (leb low (two_at s at)) (low ≤ two_at s at) (NotAscending 0) at

-- v is a value of the component, a sum being at most 65,535
abbrev pub IsValue : Component → ℕ → Type 0
IsValue c v = ValidValue c v × (sum_here c v ≤ arc_sum)

-- 6: the two bytes at an offset are no value of the component
abbrev pub value_case : List ℕ → Component → ℕ → Case
value_case s c at = due_unless (in_range arc_sum c (two_at s at)) (IsValue c (two_at s at)) (Value 0) at

-- .. component by component
abbrev pub values_cases : List ℕ → List Component → ℕ → List Case
values_cases s [] at = []
values_cases s (c ∷ cs) at = value_case s c at ∷ values_cases s cs (at + 2)

-- a record after records whose first two bytes are below low
abbrev pub record_cases : List ℕ → Head → Listing → ℕ → ℕ → List Case
record_cases s h list at low =
    cut_case s at (length_of h list) ∷ end_case s at h.n ∷ end_case s (at + 1) (seconds h list) ∷ ascend_case s at low ∷ values_cases s (components_of h.language) (at + 2)

-- ---- the two lists

-- count records, each after the one before it
unfoldable pub records_cases : List ℕ → Head → Listing → ℕ → ℕ → ℕ → List Case
records_cases s h list at low zero = []
records_cases s h list at low (suc count) = record_cases s h list at low ++ records_cases s h list (at + length_of h list) (two_at s at + 1) count

-- the two bytes of a list's count, and as many records
abbrev pub record_list_cases : List ℕ → Head → Listing → ℕ → List Case
record_list_cases s h list at = cut_case s at 2 ∷ records_cases s h list (at + 2) 0 (two_at s at)

-- 1: from an offset on bytes are left over
abbrev pub left_over_case : List ℕ → ℕ → Case
left_over_case s at = due_unless (leb (length s) at) (length s ≤ at) (Bytes 0) at

-- Arcs from an offset on, attachments after them, and nothing after these.
abbrev pub body_cases : List ℕ → Head → ℕ → List Case
body_cases s h at =
    record_list_cases s h Arcs at
    ++ (record_list_cases s h Attachments (list_end s h Arcs at) ++ (left_over_case s (list_end s h Attachments (list_end s h Arcs at)) ∷ []))
