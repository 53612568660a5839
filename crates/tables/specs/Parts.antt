-- What the inner functions say and rely on, on the way to Tables: places in a table, what forwarding is given, and how words are
-- read. They join the code to Tables; nothing here has to be believed.
use Rattle.std.specs.Prelude.{ℕ, ◌+◌, ◌≤◌, ◌<◌, cond, List, leb, eqb, length}
use Rattle.weights.specs.declared.Component.{Component}
use Rattle.weights.specs.Sizes.{entry_words, ones, arc_sum, matrix_sum}
use Rattle.weights.specs.Weights.{Weight, none, route}
use Rattle.weights.specs.Languages.{SmallLimits}
use Rattle.matrices.specs.Buffers.{Formed}
use Rattle.modes.specs.declared.Mode.{Mode}
use Rattle.modes.specs.Entries.{empty, mapped, largest_t}
use Rattle.tables.specs.Tables.{EntryReading, good_entry, bad_entry, table_place, FormedTable}

-- entry (i, d) of a table of m destinations lies in the buffer
pub record InTable (m i d : ℕ) (s : List ℕ) : Type 0 where
  pub node : i < 16
  pub destination : d < m
  pub few : m ≤ 32
  pub room : table_place m i d + entry_words ≤ length s

-- What forwarding is given: small limits, a well-formed matrix, and a well-formed mapping table.
pub record GivenTable (mode : Mode) (cs : List Component) (n m : ℕ) (r s : List ℕ) : Type 0 where
  pub limits : SmallLimits 65535 cs
  pub routes : Formed matrix_sum cs n r
  pub table : FormedTable mode arc_sum cs n m s

-- what a weight that reads well stands for with the word of t
abbrev pub route_read : Mode → Weight → ℕ → EntryReading
route_read mode none t = cond (eqb t ones) (good_entry empty) bad_entry
route_read mode (route xs) t = cond (leb t (largest_t mode)) (good_entry (mapped xs t)) bad_entry
