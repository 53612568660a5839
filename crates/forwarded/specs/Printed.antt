-- 01's printed case in buffers: arcs 0 to 1 of 2, 0 to 2 of 9, 1 to 2 of 3; destination 0 at node 1 with t 7, at node 2 with t 4.
-- To be believed: all of it, beside 01's own file and lines. The theorems are in proofs/Worked.
use Rattle.std.specs.Prelude.{ℕ, List, [], ◌∷◌}
use Rattle.weights.specs.Weights.{none}
use Rattle.matrices.specs.Buffers.{matrix_words}
use Rattle.modes.specs.Entries.{empty}
use Rattle.tables.specs.Tables.{table_words}
use Rattle.guards.specs.OnNetwork.{on_network}
use Rattle.forwarding.specs.Calls.{OnTables, on_tables}
use Rattle.histories.specs.Examples.{written, distance_language}
use Rattle.forwarded.specs.Figures.{tabled, of_value, value_with_t}

-- its arcs
abbrev pub printed_arcs : List ℕ
printed_arcs = matrix_words 3 (written ((none ∷ of_value 2 ∷ of_value 9 ∷ []) ∷ (none ∷ none ∷ of_value 3 ∷ []) ∷ (none ∷ none ∷ none ∷ []) ∷ []))

-- the printed R lines
abbrev pub printed_routes : List ℕ
printed_routes = matrix_words 3 (written ((of_value 0 ∷ of_value 2 ∷ of_value 5 ∷ []) ∷ (none ∷ of_value 0 ∷ of_value 3 ∷ []) ∷ (none ∷ none ∷ of_value 0 ∷ []) ∷ []))

-- its attachments
abbrev pub printed_mapping : List ℕ
printed_mapping = table_words 3 1 (tabled ((empty ∷ []) ∷ (value_with_t 0 7 ∷ []) ∷ (value_with_t 0 4 ∷ []) ∷ []))

-- the call on them in a mode and with these routes: dist alone, three nodes, one destination
abbrev pub printed_in : ℕ → List ℕ → OnTables
printed_in mode routes = on_tables (on_network distance_language 3 printed_arcs) 1 mode routes printed_mapping
