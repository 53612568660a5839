-- What the inner functions say on the way to Calls: when a call's checks have passed, and runs on the words of a buffer.
-- They join the code to Calls; nothing here has to be believed.
use Rattle.std.specs.Prelude.{ℕ, suc, ◌≡◌, true, cond, List, [], ◌∷◌, Result, Ok, Err}
use Rattle.algebra.specs.Step as algebra
use Rattle.algebra.specs.Step.{step, row, settle}
use Rattle.weights.specs.declared.Component.{Component}
use Rattle.weights.specs.Sizes.{places}
use Rattle.weights.specs.Weights.{language}
use Rattle.weights.specs.Languages.{places_of}
use Rattle.matrices.specs.Buffers.{matrix_words, matrix_in}
use Rattle.matrices.specs.Steps.{Given}
use Rattle.guards.specs.OnNetwork.{OnNetwork}
use Rattle.guards.specs.Entrance.{Placed}
use Rattle.routes.specs.declared.Step.{Step}
use Rattle.routes.specs.declared.Step.TheVariants.{Row, Settle}
use Rattle.guards.specs.Checks.{is_step}
use Rattle.routes.specs.Calls.{equation_check, step_fits}
use Rattle.weights.specs.declared.PerPlace.{PerPlace}
use Rattle.refusals.specs.declared.Refusal.{Refusal}

-- what the checks of a call on A and R give: the places of a lawful language and two well-formed matrices, or the first refusal
abbrev pub MatricesReady : OnNetwork → List ℕ → Result (PerPlace Component) Refusal → Type 0
MatricesReady N r (Ok p) = (equation_check N r ≡ Ok tt) × Placed N.language p × Given (places_of p) N.n N.arcs r
MatricesReady N r (Err x) = equation_check N r ≡ Err x

-- the step that the code's step means
abbrev pub step_meant : Step → algebra.Step
step_meant (Row node) = row node.0
step_meant (Settle node) = settle node.0

-- every number of the list is a step
abbrev pub AllSteps : ℕ → List ℕ → Type 0
AllSteps n [] = Unit {0}
AllSteps n (x ∷ list) = (is_step n x ≡ true) × AllSteps n list

-- the words that a step leaves
unfoldable pub step_left : List Component → ℕ → List ℕ → List ℕ → algebra.Step → List ℕ
step_left cs n a r s = matrix_words n (cond (step_fits cs n (matrix_in places n a) (matrix_in places n r) s) (step (language cs) n (matrix_in places n a) s (matrix_in places n r)) (matrix_in places n r))

-- the words after the steps, in order, up to the first that is refused
unfoldable pub run_left : List Component → ℕ → List ℕ → List ℕ → List algebra.Step → List ℕ
run_left cs n a r [] = r
run_left cs n a r (s ∷ steps) = cond (step_fits cs n (matrix_in places n a) (matrix_in places n r) s) (run_left cs n a (step_left cs n a r s) steps) (step_left cs n a r s)

-- how many of the steps are done before the first that is refused
unfoldable pub run_done : List Component → ℕ → List ℕ → List ℕ → List algebra.Step → ℕ
run_done cs n a r [] = 0
run_done cs n a r (s ∷ steps) = cond (step_fits cs n (matrix_in places n a) (matrix_in places n r) s) (suc (run_done cs n a (step_left cs n a r s) steps)) 0
