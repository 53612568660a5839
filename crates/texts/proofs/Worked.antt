-- The lines of the printed case (01), and of a refusal and plain mode, byte for byte.
use mathlib.Core.Path.{◌≡◌, refl}
use mathlib.Core.Bool.{true}
use mathlib.Core.List.{[], ◌∷◌, ◌++◌}
use Rattle.refusals.specs.Told.{row}
use Rattle.matrices.specs.Buffers.{blocks}
use Rattle.modes.specs.Entries.{mapped}
use Rattle.decimals.specs.Digits.{digits_within, decimal}
use Rattle.texts.specs.PrintedCase.{case_routes, case_table}
use Rattle.texts.specs.Lines.{laws_line, route_line, entry_line, refused_line, route_lines, entry_lines}

pub printed_case : laws_line true true true ++ (route_lines 3 case_routes ++ entry_lines 3 3 1 case_table)
    ≡ 76 ∷ 65 ∷ 87 ∷ 83 ∷ 32 ∷ 49 ∷ 32 ∷ 49 ∷ 32 ∷ 49 ∷ 10
    ∷ 82 ∷ 32 ∷ 48 ∷ 32 ∷ 48 ∷ 32 ∷ 48 ∷ 10
    ∷ 82 ∷ 32 ∷ 48 ∷ 32 ∷ 49 ∷ 32 ∷ 50 ∷ 10
    ∷ 82 ∷ 32 ∷ 48 ∷ 32 ∷ 50 ∷ 32 ∷ 53 ∷ 10
    ∷ 82 ∷ 32 ∷ 49 ∷ 32 ∷ 48 ∷ 32 ∷ 45 ∷ 10
    ∷ 82 ∷ 32 ∷ 49 ∷ 32 ∷ 49 ∷ 32 ∷ 48 ∷ 10
    ∷ 82 ∷ 32 ∷ 49 ∷ 32 ∷ 50 ∷ 32 ∷ 51 ∷ 10
    ∷ 82 ∷ 32 ∷ 50 ∷ 32 ∷ 48 ∷ 32 ∷ 45 ∷ 10
    ∷ 82 ∷ 32 ∷ 50 ∷ 32 ∷ 49 ∷ 32 ∷ 45 ∷ 10
    ∷ 82 ∷ 32 ∷ 50 ∷ 32 ∷ 50 ∷ 32 ∷ 48 ∷ 10
    ∷ 70 ∷ 32 ∷ 48 ∷ 32 ∷ 48 ∷ 32 ∷ 53 ∷ 32 ∷ 52 ∷ 10
    ∷ 70 ∷ 32 ∷ 49 ∷ 32 ∷ 48 ∷ 32 ∷ 51 ∷ 32 ∷ 52 ∷ 10
    ∷ 70 ∷ 32 ∷ 50 ∷ 32 ∷ 48 ∷ 32 ∷ 48 ∷ 32 ∷ 52 ∷ 10 ∷ []
unfolding laws_line route_line entry_line blocks decimal digits_within
printed_case = refl

-- plain mode omits t
pub plain_case : entry_line 1 0 0 (mapped (5 ∷ []) 0) ≡ 70 ∷ 32 ∷ 48 ∷ 32 ∷ 48 ∷ 32 ∷ 53 ∷ 10 ∷ []
unfolding entry_line decimal digits_within
plain_case = refl

-- input that is too long
pub refused_case : refused_line (row 1 0 0) ≡ 82 ∷ 69 ∷ 70 ∷ 85 ∷ 83 ∷ 69 ∷ 68 ∷ 32 ∷ 49 ∷ 32 ∷ 48 ∷ 32 ∷ 48 ∷ 10 ∷ []
unfolding refused_line decimal digits_within
refused_case = refl
