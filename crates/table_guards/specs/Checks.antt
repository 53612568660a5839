-- The cases that only forwarding has (01, "Refusal numbers"); the others are those of guards/specs/Checks.
-- To be believed: all of it.
use Rattle.std.specs.Prelude.{ℕ, ◌*◌, ◌≤◌, ◌≡◌, not, ◌||◌, cond, ◌&&◌, List, leb, eqb, length, Option, Ok, Err, Some, None}
use Rattle.refusals.specs.declared.Refusal.TheVariants.{Size, Length, Law, Equation}
use Rattle.refusals.specs.Checks.{unless, Check}
use Rattle.weights.specs.declared.Component.{Component}
use Rattle.algebra.specs.Step.{Solves}
use Rattle.weights.specs.Weights.{language}
use Rattle.weights.specs.Sizes.{entry_words, arc_sum}
use Rattle.weights.specs.Laws.{LawC, test_c}
use Rattle.matrices.specs.Buffers.{matrix_in}
use Rattle.matrices.specs.Steps.{solves}
use Rattle.modes.specs.declared.Mode.{Mode}
use Rattle.modes.specs.declared.Mode.TheVariants.{Plain}
use Rattle.modes.specs.Entries.{mode_for, needs_c}
use Rattle.tables.specs.Tables.{table_case}
use Rattle.refusals.specs.Cases.{Case, due_unless}
use Rattle.guards.specs.Checks.{most_nodes}

-- the most destinations
abbrev pub most_destinations : ℕ
most_destinations = 32

-- ---- the cases

-- 3: m is over 32
abbrev pub destinations_case : ℕ → Case
destinations_case m = due_unless (leb m most_destinations) (m ≤ most_destinations) (Size 2) 0

-- 3, which 3, where no mode fits
abbrev pub chosen_check : Option Mode → Check
chosen_check (Some mode) = Ok tt
chosen_check None = Err (Size 3 0)

-- the mode is 1, 2 or 3, and there is a destination
abbrev pub ModeFits : ℕ → ℕ → Type 0
ModeFits m number = (1 ≤ m) × (1 ≤ number) × (number ≤ 3)

-- 3: the number is no mode, or m is 0
abbrev pub mode_case : List Component → ℕ → ℕ → Case
mode_case cs m number = record { check = chosen_check (mode_for cs m number); tells = Size 3; due = λ place. (place ≡ 0) × (ModeFits m number → ⊥) }

-- the mode of a number that fits; where none does, the call is refused 3 before a mode is asked for
abbrev pub chosen_mode : Option Mode → Mode
chosen_mode (Some mode) = mode
chosen_mode None = Plain

-- 9: the buffer has not the words of n x m entries
abbrev pub table_length_case : ℕ → ℕ → ℕ → List ℕ → Case
table_length_case which n m s = due_unless (eqb (length s) (n * (m * entry_words))) (length s ≡ n * (m * entry_words)) (Length which) 0

-- 9's check, where n is at most 16 and m at most 32; else passed, since 3 is told
abbrev pub table_length_measured : ℕ → ℕ → ℕ → List ℕ → Check
table_length_measured which n m s = cond (leb n most_nodes && leb m most_destinations) (table_length_case which n m s).check (Ok tt)

-- 10's check, where the mode needs law C
abbrev pub law_c_check : Mode → List Component → Check
law_c_check mode cs = unless (not (needs_c mode) || test_c cs) (Law 3 0)

-- 10: the mode's number is 2, hot, and law C fails over all weights
abbrev pub law_c_case : ℕ → Mode → List Component → Case
law_c_case number mode cs = record { check = law_c_check mode cs; tells = Law 3; due = λ place. (place ≡ 0) × (number ≡ 2) × (LawC cs → ⊥) }

-- 6 on M (buffer 3), whose sums are at most 65,535
abbrev pub mapping_case : Mode → List Component → ℕ → ℕ → List ℕ → Case
mapping_case mode cs n m mapping = table_case 3 mode arc_sum cs n m mapping

-- 12: R does not satisfy R = (A join R) best fresh
abbrev pub solves_case : List Component → ℕ → List ℕ → List ℕ → Case
solves_case cs n a r = due_unless (solves cs n (matrix_in (length cs) n a) (matrix_in (length cs) n r)) (Solves (language cs) n (matrix_in (length cs) n a) (matrix_in (length cs) n r)) (Equation 2) 0
