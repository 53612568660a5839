-- The forwarding tables of 002's figure 6: the sums give the printed tables, and so do the calls on their buffers.
use Prim.Native.Nat.{ℕ, suc, ◌+◌, ◌≤◌, ◌<◌}
use mathlib.Core.Path.{◌≡◌, refl}
use mathlib.Core.Bool.{true}
use mathlib.Core.List.{List}
use native.Mathlib.Omega.{arith}
use borrow.Author.Tests.{lt-ltb, le-ltb, ne_eqb}
use lib.ListN.{replicate}
use Rattle.refusals.specs.Told.{row, done}
use Rattle.refusals.specs.Checks.{answer_told}
use Rattle.algebra.specs.Order.{pick, best_of}
use Rattle.algebra.specs.Best.{best, best_among}
use Rattle.algebra.specs.Step.{routed}
use Rattle.algebra.specs.Modes.{forwarded}
use Rattle.weights.specs.declared.Component.{Component}
use Rattle.weights.specs.Weights.{language}
use Rattle.weights.specs.Words.{words}
use Rattle.matrices.specs.Buffers.{blocks, matrix_words, cell, first_malformed}
use Rattle.matrices.specs.Steps.{Matrix, every, solves}
use Rattle.modes.specs.declared.Mode.{Mode}
use Rattle.modes.specs.declared.Mode.TheVariants.{Hot, Cold}
use Rattle.modes.specs.Entries.{Entry, empty, mode_of}
use Rattle.tables.specs.Tables.{words_of, table_words, table_in}
use Rattle.guards.specs.OnNetwork.{on_network}
use Rattle.forwarding.specs.Calls.{OnTables, on_tables, forward_check, forward_left}
use Rattle.histories.specs.Examples.{written, distance, distance_language}
use Rattle.forwarded.specs.Figures.{tabled, rows_of, value_with_t, band, unlimited, band_routes, band_arcs, band_mapping, band_table, pair, distance_routes, distance_arcs, distance_mapping, distance_table, band_language}

-- the forwarding table
abbrev table : List Component → Mode → ℕ → Matrix → List (List Entry) → List (List Entry)
table cs mode n R M = rows_of n 2 (forwarded (language cs) (mode_of mode cs) n R (tabled M))

-- ---- bandwidth, cold

pub band_routes_lem : (rows_of 4 4 (best (language band) 4 band_arcs) ≡ band_routes) × (solves band 4 band_arcs (written band_routes) ≡ true)
unfolding every routed best_of pick best best_among
band_routes_lem = (refl, refl)

-- the table is the printed one, at whichever of the three nodes d1 is attached with 3
pub band_forwarded :
    (table band Cold 4 (written band_routes) (band_mapping (value_with_t unlimited 3) empty empty) ≡ band_table)
    × (table band Cold 4 (written band_routes) (band_mapping empty (value_with_t unlimited 3) empty) ≡ band_table)
    × (table band Cold 4 (written band_routes) (band_mapping empty empty (value_with_t unlimited 3)) ≡ band_table)
unfolding forwarded best_of pick
band_forwarded = (refl, refl, refl)

-- ---- distance, hot

pub pair_keeps_order : (b c p q : ℕ) → b < 100 → c < 100 → 1 ≤ p → (p < q → pair b p < pair c q) × (c < b → pair b p < pair c p)
pair_keeps_order b c p q hb hc hp = (λ h. omega arith, λ h. omega arith)

pub distance_routes_lem : (rows_of 5 5 (best (language distance) 5 distance_arcs) ≡ distance_routes 5 5) × (solves distance 5 distance_arcs (written (distance_routes 5 5)) ≡ true)
unfolding every routed best_of pick best best_among
distance_routes_lem = (refl, refl)

-- The table is the printed one, whatever x is, and y from 1 on. "The two egress nodes (4 and 5) are at identical distances from 1, and
-- therefore the bandwidth components are used as tie-breakers."
pub distance_forwarded : (x y : ℕ) → table distance Hot 5 (written (distance_routes x (suc y))) distance_mapping ≡ distance_table
unfolding forwarded best_of pick
distance_forwarded x y = rw (ne_eqb (suc y + 0) 0 (λ q. omega arith), ne_eqb 0 (suc y + 0) (λ q. omega arith), le-ltb (suc y + 0) 0 (omega arith), lt-ltb 0 (suc y + 0) (omega arith))

-- ---- the calls, on the buffers of these tables

-- figure 6(b) and (c), in a mode
abbrev band_in : ℕ → OnTables
band_in mode = on_tables (on_network band_language 4 (matrix_words 4 band_arcs)) 2 mode (matrix_words 4 (written band_routes)) (table_words 4 2 (tabled (band_mapping (value_with_t unlimited 3) empty empty)))

-- figure 6(f) and (g), in a mode
abbrev distance_in : ℕ → OnTables
distance_in mode = on_tables (on_network distance_language 5 (matrix_words 5 distance_arcs)) 2 mode (matrix_words 5 (written (distance_routes 5 5))) (table_words 5 2 (tabled distance_mapping))

-- in mode 3 the call on figure 6(b) and (c) is done, and leaves figure 6(d)
pub band_call :
    (answer_told (forward_check (band_in 3) (replicate 40 0)) ≡ done)
    × (forward_left (band_in 3) (replicate 40 0) ≡ table_words 4 2 (tabled band_table))
unfolding blocks words words_of first_malformed cell table_in every routed forwarded best_of pick
band_call = (refl, refl)

-- in mode 2 it is refused for law C, which width does not have
pub band_hot : answer_told (forward_check (band_in 2) (replicate 40 0)) ≡ row 10 3 0
unfolding blocks words words_of first_malformed cell table_in every routed forwarded best_of pick
band_hot = refl

-- in mode 2 the call on figure 6(f) and (g) is done, and leaves figure 6(h)
pub distance_call :
    (answer_told (forward_check (distance_in 2) (replicate 50 0)) ≡ done)
    × (forward_left (distance_in 2) (replicate 50 0) ≡ table_words 5 2 (tabled distance_table))
unfolding blocks words words_of first_malformed cell table_in every routed forwarded best_of pick
distance_call = (refl, refl)
