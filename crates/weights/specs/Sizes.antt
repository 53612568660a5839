-- The sizes that 01 fixes for a language, a weight, an entry and their sums. The most nodes, steps and destinations are named where
-- they are checked (guards/specs/Checks, table_guards/specs/Checks); the 1,024 and 2,560 words of the reader's buffers have no name.
-- To be believed: all of it.
use Rattle.std.specs.Prelude.{ℕ}

-- the places that a language has for components
abbrev pub places : ℕ
places = 4

-- the words of a weight
abbrev pub weight_words : ℕ
weight_words = 4

-- the words of a table's entry
abbrev pub entry_words : ℕ
entry_words = 5

-- the product tags that a language may have
abbrev pub product_tags : ℕ
product_tags = 3

-- the word of which "no route" and "empty" are made
abbrev pub ones : ℕ
ones = 4294967295

-- the largest sum (dist, gain) in an arc or a mapping entry
abbrev pub arc_sum : ℕ
arc_sum = 65535

-- the largest sum in a matrix: 15 x 65,535
abbrev pub matrix_sum : ℕ
matrix_sum = 983025

-- the largest sum in a forwarding table: 16 x 65,535
abbrev pub table_sum : ℕ
table_sum = 1048560
