-- Tables in flat buffers of words, by rows (01, "Numbers of the network"), and refusal 6 on one.
-- To be believed: all but `entry_read_of`, which joins the code to the rest.
use Rattle.std.specs.Prelude.{ℕ, ◌+◌, ◌*◌, ◌≤◌, ◌<◌, ◌≡◌, Bool, true, false, cond, ◌&&◌, List, [], ◌∷◌, ◌++◌, leb, length, get_or, take, drop, replicate, Option, Some, None}
use Rattle.refusals.specs.declared.Refusal.TheVariants.{Value}
use Rattle.weights.specs.declared.Component.{Component}
use Rattle.weights.specs.Sizes.{weight_words, entry_words, ones}
use Rattle.weights.specs.Weights.{none, route}
use Rattle.weights.specs.Words.{filled, all_are, Reading, good, malformed, reading}
use Rattle.matrices.specs.Buffers.{blocks, first_malformed}
use Rattle.modes.specs.declared.Mode.{Mode}
use Rattle.modes.specs.Entries.{Entry, empty, mapped, entry_of, largest_t}
use Rattle.refusals.specs.Cases.{Case}
use Rattle.refusals.specs.Checks.{Check}
use Rattle.modes.specs.declared.Entry as declared

-- ---- the words of an entry

-- The words of an entry: its weight's, then t; empty is ones in every word.
unfoldable pub words_of : Entry → List ℕ
words_of empty = replicate entry_words ones
words_of (mapped xs t) = filled weight_words xs ++ (t ∷ [])

-- the word of t, which follows the weight's
abbrev pub word_of_t : List ℕ → ℕ
word_of_t ws = get_or ws weight_words 0

-- the words of a weight stand for a route, neither no route nor malformed: a test
abbrev pub reads_route : Reading → Bool
reads_route (good none) = false
reads_route (good (route xs)) = true
reads_route malformed = false

-- Whether the words of a weight and t make an entry: a route of the language with its sums at most cap, and a t of the mode.
abbrev pub entry_fits : Mode → ℕ → List Component → List ℕ → ℕ → Bool
entry_fits mode cap cs ws t = reads_route (reading cap cs ws) && leb t (largest_t mode)

-- What the words of an entry stand for.
pub data EntryReading : Type 0 where
  good_entry : Entry → EntryReading
  bad_entry : EntryReading

-- empty is ones in every word; other words are a route and t; other patterns are malformed
abbrev pub reading_entry : Mode → ℕ → List Component → List ℕ → EntryReading
reading_entry mode cap cs ws = cond (all_are ones ws) (good_entry empty) (cond (entry_fits mode cap cs (take weight_words ws) (word_of_t ws)) (good_entry (mapped (take (length cs) ws) (word_of_t ws))) bad_entry)

-- the words of an entry are not malformed: a test
abbrev pub is_good_entry : EntryReading → Bool
is_good_entry (good_entry e) = true
is_good_entry bad_entry = false

-- what the code's answer of reading says
abbrev pub entry_read_of : Option declared.Entry → EntryReading
entry_read_of (Some e) = good_entry (entry_of e)
entry_read_of None = bad_entry

-- the entry, of k values, that words stand for where they are not malformed
abbrev pub decoded_entry : ℕ → List ℕ → Entry
decoded_entry k ws = cond (all_are ones ws) empty (mapped (take k ws) (word_of_t ws))

-- ---- tables

-- the words of a node's row, whose entry for d is g d
abbrev pub table_row_words : ℕ → (ℕ → Entry) → List ℕ
table_row_words m g = blocks m (λ d. words_of (g d))

-- The words of the table of n nodes and m destinations whose entry at (i, d) is M i d, by rows.
abbrev pub table_words : ℕ → ℕ → (ℕ → ℕ → Entry) → List ℕ
table_words n m M = blocks n (λ i. table_row_words m (M i))

-- where entry (i, d) of a table of m destinations begins
abbrev pub table_place : ℕ → ℕ → ℕ → ℕ
table_place m i d = i * (m * entry_words) + d * entry_words

-- the words of the entry that begins at p
abbrev pub entry_at : List ℕ → ℕ → List ℕ
entry_at s p = take entry_words (drop p s)

-- The table of m destinations in a buffer that has passed its check, its routes of k values.
unfoldable pub table_in : ℕ → ℕ → List ℕ → ℕ → ℕ → Entry
table_in k m s i d = decoded_entry k (entry_at s (table_place m i d))

-- the words at p are an entry of the language and the mode, its sums at most cap
abbrev pub well_formed_entry : Mode → ℕ → List Component → List ℕ → ℕ → Bool
well_formed_entry mode cap cs s p = is_good_entry (reading_entry mode cap cs (entry_at s p))

-- the check of a table: its first malformed entry, by rows
abbrev pub table_check : ℕ → Mode → ℕ → List Component → ℕ → ℕ → List ℕ → Check
table_check which mode cap cs n m s = first_malformed (well_formed_entry mode cap cs s) entry_words which 0 (n * m)

-- a buffer of the size of a table of n nodes and m destinations
pub record Sized (n m : ℕ) (s : List ℕ) : Type 0 where
  pub few_nodes : n ≤ 16
  pub few_destinations : m ≤ 32
  pub long : length s ≡ n * (m * entry_words)

-- a table without a malformed entry, its sums at most cap
pub record FormedTable (mode : Mode) (cap : ℕ) (cs : List Component) (n m : ℕ) (s : List ℕ) : Type 0 where
  pub sized : Sized n m s
  pub reads : (i d : ℕ) → i < n → d < m → well_formed_entry mode cap cs s (table_place m i d) ≡ true

-- the place is that of entry (node, destination), which is malformed, and every entry before it, by rows, is well-formed
pub record AtFirstMalformedEntry (mode : Mode) (cap : ℕ) (cs : List Component) (n m : ℕ) (s : List ℕ) (place : ℕ) : Type 0 where
  pub node : ℕ
  pub destination : ℕ
  pub node_below : node < n
  pub destination_below : destination < m
  pub fails : well_formed_entry mode cap cs s (table_place m node destination) ≡ false
  pub before : (i d : ℕ) → i < n → d < m → i * m + d < node * m + destination → well_formed_entry mode cap cs s (table_place m i d) ≡ true
  pub here : place ≡ table_place m node destination

-- refusal 6 on a table of n nodes and m destinations: at its first malformed entry, by rows
abbrev pub table_case : ℕ → Mode → ℕ → List Component → ℕ → ℕ → List ℕ → Case
table_case which mode cap cs n m s = record { check = table_check which mode cap cs n m s; tells = Value which; due = AtFirstMalformedEntry mode cap cs n m s }
