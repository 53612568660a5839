-- The calls fresh, steps and equation (01, "Steps"): each call's cases in 01's order, its answer, and what its buffer holds then.
-- To be believed: all of it.
use Rattle.std.specs.Prelude.{ℕ, suc, ◌-◌, Bool, true, false, cond, ◌≡◌, List, [], ◌∷◌, ◌++◌, map, ltb, length, Result, Ok, Err}
use Rattle.refusals.specs.declared.Refusal.{Refusal}
use Rattle.refusals.specs.declared.Refusal.TheVariants.{Sum}
use Rattle.refusals.specs.declared.Told.{Told}
use Rattle.refusals.specs.Told.{told, done}
use Rattle.refusals.specs.Checks.{answer_told, if_passed, Check}
use Rattle.refusals.specs.Cases.{Case, check_of}
use Rattle.algebra.specs.Step.{Step, row, settle, fresh, step}
use Rattle.weights.specs.declared.Component.{Component}
use Rattle.weights.specs.declared.Language.{Language}
use Rattle.weights.specs.Weights.{language}
use Rattle.weights.specs.Languages.{components_of}
use Rattle.matrices.specs.Buffers.{matrix_words}
use Rattle.matrices.specs.Steps.{Matrix, row_fits, solves}
use Rattle.routes.specs.declared.Stopped.{Stopped}
use Rattle.guards.specs.Checks.{nodes_case, length_case, arcs_case, routes_case, many_case, list_case, call_cases, first_settle}
use Rattle.guards.specs.OnNetwork.{OnNetwork, components, matrix_on, arcs_on}
use Rattle.routes.specs.Stops.{StopsAt}

-- ---- fresh

-- 3, 5, 4, 9, 10
abbrev pub fresh_cases : Language → ℕ → List ℕ → List Case
fresh_cases l n r = call_cases l (nodes_case n ∷ []) (length_case 2 n r ∷ []) []

-- the first refusal of these
abbrev pub fresh_check : Language → ℕ → List ℕ → Check
fresh_check l n r = check_of (fresh_cases l n r)

-- what the call leaves in r: the fresh matrix; on refusal r as it was
abbrev pub fresh_left : Language → ℕ → List ℕ → List ℕ
fresh_left l n r = if_passed (fresh_check l n r) (matrix_words n (fresh (language (components_of l)))) r

-- ---- a call on A and R

-- 3, 5, 4, 9 (A, R), 10, 6 on A, R, and what a call on A and R has besides
abbrev pub matrices_cases : OnNetwork → List ℕ → List Case → List Case
matrices_cases N r rest =
    call_cases N.language (nodes_case N.n ∷ []) (length_case 1 N.n N.arcs ∷ length_case 2 N.n r ∷ [])
    (arcs_case (components N) N.n N.arcs ∷ routes_case (components N) N.n r ∷ rest)

-- ---- steps

-- the step that a number of the list means
abbrev pub step_of : ℕ → Step
step_of x = cond (ltb x first_settle) (row x) (settle (x - first_settle))

-- a row step is refused 11 where it would store a sum above 983,025; a settle never is
abbrev pub step_fits : List Component → ℕ → Matrix → Matrix → Step → Bool
step_fits cs n A R (row i) = row_fits cs n A R i
step_fits cs n A R (settle j) = true

-- the matrix after the steps, in order, up to the first that is refused
unfoldable pub run_of : List Component → ℕ → Matrix → Matrix → List Step → Matrix
run_of cs n A R [] = R
run_of cs n A R (s ∷ steps) = cond (step_fits cs n A R s) (run_of cs n A (step (language cs) n A s R) steps) R

-- how many of them are done
unfoldable pub done_of : List Component → ℕ → Matrix → Matrix → List Step → ℕ
done_of cs n A R [] = 0
done_of cs n A R (s ∷ steps) = cond (step_fits cs n A R s) (suc (done_of cs n A (step (language cs) n A s R) steps)) 0

-- 3, 5, 4, 9 (A, R), 10, 6 on A, R, 13, 7: all that is checked before the first step
abbrev pub steps_cases : OnNetwork → List ℕ → List ℕ → List Case
steps_cases N r list = matrices_cases N r (many_case list ∷ list_case N.n list ∷ [])

-- the first refusal of these
abbrev pub steps_check : OnNetwork → List ℕ → List ℕ → Check
steps_check N r list = check_of (steps_cases N r list)

-- the matrix after the list, up to the first step that is refused
abbrev pub ran_of : OnNetwork → List ℕ → List ℕ → Matrix
ran_of N r list = run_of (components N) N.n (arcs_on N) (matrix_on N r) (map step_of list)

-- how many of its steps are done
abbrev pub count_of : OnNetwork → List ℕ → List ℕ → ℕ
count_of N r list = done_of (components N) N.n (arcs_on N) (matrix_on N r) (map step_of list)

-- 11, where k of m steps are done and k is not m
abbrev pub sum_check : ℕ → ℕ → Check
sum_check k m = cond (ltb k m) (Err (Sum 0 k)) (Ok tt)

-- 11 while running: at the first step that would store a sum above 983,025
abbrev pub sum_case : OnNetwork → List ℕ → List ℕ → Case
sum_case N r list = record {
  check = sum_check (count_of N r list) (length list);
  tells = Sum 0;
  due = λ k. StopsAt (components N) N.n (arcs_on N) (matrix_on N r) k (map step_of list);
}

-- all that the call may refuse: its checks, and then 11
abbrev pub running_cases : OnNetwork → List ℕ → List ℕ → List Case
running_cases N r list = steps_cases N r list ++ sum_case N r list ∷ []

-- the whole row of the answer: the refusal, and the steps done
pub record StepsRow : Type 0 where
  pub told : Told
  pub done : ℕ

-- the row that the call answers: its first refusal, and the steps done, none where a check refuses
abbrev pub steps_row : OnNetwork → List ℕ → List ℕ → StepsRow
steps_row N r list = record { told = answer_told (check_of (running_cases N r list)); done = if_passed (steps_check N r list) (count_of N r list) 0 }

-- what the call leaves in r: the matrix after the steps that are done, also after 11, or r as it was where a check refuses
abbrev pub steps_left : OnNetwork → List ℕ → List ℕ → List ℕ
steps_left N r list = if_passed (steps_check N r list) (matrix_words N.n (ran_of N r list)) r

-- The steps done, in words: all of the list, or those before the step that is refused 11, or none.
pub record StepsCounted (list : List ℕ) (row : StepsRow) : Type 0 where
  pub whole : row.told ≡ done → row.done ≡ length list
  pub stopped : (k : ℕ) → row.told ≡ told (Sum 0 k) → row.done ≡ k
  pub refused : (x : Refusal) → ((k : ℕ) → x ≡ Sum 0 k → ⊥) → row.told ≡ told x → row.done ≡ 0

-- what the code's answer says
abbrev pub steps_said : Result ℕ Stopped → StepsRow
steps_said (Ok k) = record { told = done; done = k }
steps_said (Err s) = record { told = told s.refusal; done = s.done }

-- ---- equation

-- 3, 5, 4, 9 (A, R), 10, 6 on A, R
abbrev pub equation_cases : OnNetwork → List ℕ → List Case
equation_cases N r = matrices_cases N r []

-- the first refusal of these
abbrev pub equation_check : OnNetwork → List ℕ → Check
equation_check N r = check_of (equation_cases N r)

-- the whole row of the answer: the refusal, and yes or no
pub record EquationRow : Type 0 where
  pub told : Told
  pub yes : Bool

-- the row that the call answers: its first refusal, else whether R satisfies R = (A join R) best fresh
abbrev pub equation_row : OnNetwork → List ℕ → EquationRow
equation_row N r = record {
  told = answer_told (equation_check N r);
  yes = if_passed (equation_check N r) (solves (components N) N.n (arcs_on N) (matrix_on N r)) false;
}

-- what the code's answer says
abbrev pub equation_said : Result Bool Refusal → EquationRow
equation_said (Ok b) = record { told = done; yes = b }
equation_said (Err x) = record { told = told x; yes = false }
