-- The calls on the buffers of 01's printed case: the printed F lines, P6, and 12 where R is not yet worked out.
use mathlib.Core.Path.{◌≡◌, refl}
use mathlib.Core.List.{[], ◌∷◌}
use lib.ListN.{replicate}
use Rattle.refusals.specs.Told.{row, done}
use Rattle.refusals.specs.Checks.{answer_told}
use Rattle.algebra.specs.Order.{pick, best_of}
use Rattle.algebra.specs.Step.{fresh, routed}
use Rattle.algebra.specs.Modes.{forwarded}
use Rattle.weights.specs.Weights.{language}
use Rattle.weights.specs.Words.{words}
use Rattle.matrices.specs.Buffers.{blocks, matrix_words, cell, first_malformed}
use Rattle.matrices.specs.Steps.{every}
use Rattle.tables.specs.Tables.{words_of, table_words, table_in}
use Rattle.forwarding.specs.Calls.{forward_check, forward_left}
use Rattle.histories.specs.Examples.{distance}
use Rattle.forwarded.specs.Figures.{tabled, value_with_t}
use Rattle.forwarded.specs.Printed.{printed_routes, printed_in}

-- the printed F lines, in mode 3
pub printed_call :
    (answer_told (forward_check (printed_in 3 printed_routes) (replicate 15 0)) ≡ done)
    × (forward_left (printed_in 3 printed_routes) (replicate 15 0) ≡ table_words 3 1 (tabled ((value_with_t 5 4 ∷ []) ∷ (value_with_t 3 4 ∷ []) ∷ (value_with_t 0 4 ∷ []) ∷ [])))
unfolding blocks words words_of first_malformed cell table_in every routed forwarded best_of pick
printed_call = (refl, refl)

-- P6, in mode 2: F(0,0) is 2 with t 7
pub p6_call :
    (answer_told (forward_check (printed_in 2 printed_routes) (replicate 15 0)) ≡ done)
    × (forward_left (printed_in 2 printed_routes) (replicate 15 0) ≡ table_words 3 1 (tabled ((value_with_t 2 7 ∷ []) ∷ (value_with_t 0 7 ∷ []) ∷ (value_with_t 0 4 ∷ []) ∷ [])))
unfolding blocks words words_of first_malformed cell table_in every routed forwarded best_of pick
p6_call = (refl, refl)

-- with the fresh matrix for R, which does not satisfy the equation: 12
pub fresh_call : answer_told (forward_check (printed_in 3 (matrix_words 3 (fresh (language distance)))) (replicate 15 0)) ≡ row 12 2 0
unfolding blocks words words_of first_malformed cell table_in every routed forwarded best_of pick
fresh_call = refl
