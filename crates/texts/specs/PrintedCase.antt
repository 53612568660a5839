-- 01's printed case: the matrix and the forwarding table whose lines it prints.
-- To be believed: all of it, beside 01's own lines. That these are the lines is `printed_case` (proofs/Worked).
use Rattle.std.specs.Prelude.{ℕ, zero, suc, [], ◌∷◌}
use Rattle.weights.specs.Weights.{Weight, none, route}
use Rattle.modes.specs.Entries.{Entry, mapped}

-- the printed matrix
abbrev pub case_routes : ℕ → ℕ → Weight
case_routes zero zero = route (0 ∷ [])
case_routes zero (suc zero) = route (2 ∷ [])
case_routes zero (suc (suc j)) = route (5 ∷ [])
case_routes (suc zero) zero = none
case_routes (suc zero) (suc zero) = route (0 ∷ [])
case_routes (suc zero) (suc (suc j)) = route (3 ∷ [])
case_routes (suc (suc i)) zero = none
case_routes (suc (suc i)) (suc zero) = none
case_routes (suc (suc i)) (suc (suc j)) = route (0 ∷ [])

-- its forwarding table
abbrev pub case_table : ℕ → ℕ → Entry
case_table zero d = mapped (5 ∷ []) 4
case_table (suc zero) d = mapped (3 ∷ []) 4
case_table (suc (suc i)) d = mapped (0 ∷ []) 4
