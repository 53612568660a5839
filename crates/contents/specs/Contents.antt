-- What a file without a fault leaves in the two buffers (01, "File" and "Numbers of the network"): the words of the weights that it
-- lists.
-- To be believed: all of it.
use Rattle.std.specs.Prelude.{ℕ, zero, suc, ◌+◌, ◌*◌, Bool, cond, ◌&&◌, List, [], ◌∷◌, ◌++◌, ltb, eqb, drop, replicate}
use Rattle.weights.specs.Sizes.{weight_words, entry_words, ones}
use Rattle.weights.specs.Weights.{Weight, none, route}
use Rattle.weights.specs.Words.{words}
use Rattle.matrices.specs.Buffers.{blocks}
use Rattle.fields.specs.declared.Head.{Head}
use Rattle.records.specs.declared.Ends.{Ends}
use Rattle.records.specs.declared.Ends.TheVariants.{Arc, Attachment}
use Rattle.records.specs.declared.Listing.{Listing}
use Rattle.records.specs.declared.Listing.TheVariants.{Arcs, Attachments}
use Rattle.file_bytes.specs.Bytes.{two_at}
use Rattle.records.specs.Records.{length_of, ends_at}

-- ---- a table in a buffer, by rows

-- the words of a table whose entry at (i, j) has the words c i j
abbrev pub grid : ℕ → ℕ → (ℕ → ℕ → List ℕ) → List ℕ
grid n m c = blocks n (λ i. blocks m (c i))

-- the words of an entry
abbrev pub words_each : Listing → ℕ
words_each Arcs = weight_words
words_each Attachments = entry_words

-- the columns of the table: nodes for arcs, destinations for attachments
abbrev pub columns : Head → Listing → ℕ
columns h Arcs = h.n
columns h Attachments = h.m

-- the words that a list is written into
unfoldable pub size_of : Head → Listing → ℕ
size_of h list = h.n * (columns h list * words_each list)

-- ---- one record

-- count values of two bytes
abbrev pub values_at : List ℕ → ℕ → ℕ → List ℕ
values_at s at zero = []
values_at s at (suc count) = two_at s at ∷ values_at s (at + 2) count

-- the weight of a record: a route with a value for each component
abbrev pub record_weight : List ℕ → Head → ℕ → Weight
record_weight s h at = route (values_at s (at + 2) h.language.count)

-- t of an attachment: 0 in plain mode
unfoldable pub outside_at : List ℕ → Head → ℕ → ℕ
outside_at s h at = cond (ltb h.mode 2) 0 (two_at s (at + 2 + h.language.count * 2))

-- an arc has the words of its weight, an attachment the outside number t after them
abbrev pub with_outside : Listing → List ℕ → ℕ → List ℕ
with_outside Arcs ws t = ws
with_outside Attachments ws t = ws ++ (t ∷ [])

-- the words that a record lists
abbrev pub record_words : List ℕ → Head → Listing → ℕ → List ℕ
record_words s h list at = with_outside list (words (record_weight s h at)) (outside_at s h at)

-- what isn't listed is no route, or empty
abbrev pub unlisted : Listing → List ℕ
unlisted Arcs = words none
unlisted Attachments = replicate entry_words ones

-- ---- a list of records

-- the row that a record is for: from, or the node
abbrev pub row_of_ends : Ends → ℕ
row_of_ends (Arc from to) = from.0
row_of_ends (Attachment node to) = node.0

-- the column that a record is for: to, or the destination
abbrev pub column_of_ends : Ends → ℕ
column_of_ends (Arc from to) = to.0
column_of_ends (Attachment node to) = to.0

-- the record is for (i, j)
abbrev pub is_at : Ends → ℕ → ℕ → Bool
is_at e i j = eqb i (row_of_ends e) && eqb j (column_of_ends e)

-- the words at (i, j) by the first count records: those of the record for (i, j), if there is one
unfoldable pub listed_words : List ℕ → Head → Listing → ℕ → ℕ → ℕ → ℕ → List ℕ
listed_words s h list first zero i j = unlisted list
listed_words s h list first (suc count) i j =
    cond (is_at (ends_at s list (first + count * length_of h list)) i j)
    (record_words s h list (first + count * length_of h list))
    (listed_words s h list first count i j)

-- the words of the table that count records list, by rows
unfoldable pub listed_table : List ℕ → Head → Listing → ℕ → ℕ → List ℕ
listed_table s h list first count = grid h.n (columns h list) (listed_words s h list first count)

-- A buffer after the list at an offset: the table, and what the buffer held after it.
abbrev pub list_over : List ℕ → Head → Listing → ℕ → List ℕ → List ℕ
list_over s h list at buffer = listed_table s h list (at + 2) (two_at s at) ++ drop (size_of h list) buffer
