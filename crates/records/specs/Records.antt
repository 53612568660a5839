-- The records of a problem file: one record, the two lists, and the first refusal where they are wrong (01, "File").
-- To be believed: all of it, but that its refusals are those of the file's words, which is proved (proofs/Cases).
use Rattle.std.specs.Prelude.{ℕ, zero, suc, ◌+◌, ◌*◌, cond, List, [], ◌∷◌, ltb, leb, length, get_or, Ok}
use Rattle.refusals.specs.declared.Refusal.TheVariants.{Bytes, Value, NoSuch, NotAscending}
use Rattle.refusals.specs.Checks.{unless, Check}
use Rattle.std.specs.Result.{result_and}
use Rattle.weights.specs.declared.Component.{Component}
use Rattle.weights.specs.Sizes.{arc_sum}
use Rattle.weights.specs.Languages.{components_of}
use Rattle.weights.specs.Words.{in_range}
use Rattle.fields.specs.declared.Head.{Head}
use Rattle.records.specs.declared.Ends.{Ends}
use Rattle.records.specs.declared.Ends.TheVariants.{Arc, Attachment}
use Rattle.records.specs.declared.Listing.{Listing}
use Rattle.records.specs.declared.Listing.TheVariants.{Arcs, Attachments}
use Rattle.file_bytes.specs.Bytes.{two_at}

-- ---- one record

-- two bytes of t in an attachment of modes 2 and 3
abbrev pub outside_length : Listing → ℕ → ℕ
outside_length Arcs mode = 0
outside_length Attachments mode = cond (ltb mode 2) 0 2

-- The bytes of a record: two ends, two bytes for each of count components, and t.
unfoldable pub record_length : Listing → ℕ → ℕ → ℕ
record_length list mode count = 2 + count * 2 + outside_length list mode

-- the bytes of a record under a head
abbrev pub length_of : Head → Listing → ℕ
length_of h list = record_length list h.mode h.language.count

-- from and to; or node and destination
abbrev pub ends_at : List ℕ → Listing → ℕ → Ends
ends_at s Arcs at = Arc (record { 0 = get_or s at 0 }) (record { 0 = get_or s (at + 1) 0 })
ends_at s Attachments at = Attachment (record { 0 = get_or s at 0 }) (record { 0 = get_or s (at + 1) 0 })

-- refusal 7: the ends exist, the first before the second
unfoldable pub ends_check : Head → ℕ → Ends → Check
ends_check h at (Arc from to) = result_and (unless (ltb from.0 h.n) (NoSuch 0 at)) (unless (ltb to.0 h.n) (NoSuch 0 (at + 1)))
ends_check h at (Attachment node to) = result_and (unless (ltb node.0 h.n) (NoSuch 0 at)) (unless (ltb to.0 h.m) (NoSuch 0 (at + 1)))

-- refusal 6: the first value, from an offset on, that its component does not have
unfoldable pub values_check : List ℕ → List Component → ℕ → Check
values_check s [] at = Ok tt
values_check s (c ∷ cs) at = result_and (unless (in_range arc_sum c (two_at s at)) (Value 0 at)) (values_check s cs (at + 2))

-- One record after records whose first two bytes are below low: it is there, its ends exist, it ascends, its values are in range.
unfoldable pub record_check : List ℕ → Head → Listing → ℕ → ℕ → Check
record_check s h list at low =
    result_and (unless (leb (at + length_of h list) (length s)) (Bytes 0 at))
    (result_and (ends_check h at (ends_at s list at))
    (result_and (unless (leb low (two_at s at)) (NotAscending 0 at))
    (values_check s (components_of h.language) (at + 2))))

-- ---- the two lists

-- count records, each after the one before it
unfoldable pub records_check : List ℕ → Head → Listing → ℕ → ℕ → ℕ → Check
records_check s h list at low zero = Ok tt
records_check s h list at low (suc count) =
    result_and (record_check s h list at low) (records_check s h list (at + length_of h list) (two_at s at + 1) count)

-- a count of two bytes, and as many records
unfoldable pub record_list_check : List ℕ → Head → Listing → ℕ → Check
record_list_check s h list at = result_and (unless (leb (at + 2) (length s)) (Bytes 0 at)) (records_check s h list (at + 2) 0 (two_at s at))

-- the offset after a list
unfoldable pub list_end : List ℕ → Head → Listing → ℕ → ℕ
list_end s h list at = at + 2 + two_at s at * length_of h list

-- no bytes are left over
abbrev pub left_over_check : List ℕ → ℕ → Check
left_over_check s at = unless (leb (length s) at) (Bytes 0 at)

-- arcs, attachments, and nothing after them
unfoldable pub body_check : List ℕ → Head → ℕ → Check
body_check s h at =
    result_and (record_list_check s h Arcs at)
    (result_and (record_list_check s h Attachments (list_end s h Arcs at)) (left_over_check s (list_end s h Attachments (list_end s h Arcs at))))
