-- The cases of fresh and of every call on A and R are exact, so these calls tell each refusal exactly where it is due, and done exactly
-- where none is.
use Prim.Native.Nat.{ℕ}
use mathlib.Core.Path.{refl, ◌≡◌}
use mathlib.Core.List.{List, [], ◌∷◌}
use Rattle.refusals.specs.Checks.{answer_told}
use Rattle.refusals.specs.Cases.{Case, ToldExactly, refusal_numbers}
use Rattle.refusals.proofs.Cases.{AllExact, told_exactly, no_more, ◌and◌}
use Rattle.weights.specs.declared.Language.{Language}
use Rattle.guards.specs.OnNetwork.{OnNetwork, components}
use Rattle.guards.proofs.Cases.{nodes_exact, length_exact, arcs_exact, routes_exact}
use Rattle.guards.proofs.Entering.{call_exact}
use Rattle.routes.specs.Calls.{fresh_cases, fresh_check, matrices_cases, equation_cases, equation_row}

fresh_exact : (l : Language) (n : ℕ) (r : List ℕ) → AllExact (fresh_cases l n r)
fresh_exact l n r = call_exact l (nodes_exact n and no_more) (length_exact 2 n r and no_more) (λ none s. no_more)

-- .. with the cases that a call has besides
pub matrices_exact : (N : OnNetwork) (r : List ℕ) {rest : List Case} → AllExact rest → AllExact (matrices_cases N r rest)
matrices_exact N r e =
    call_exact N.language (nodes_exact N.n and no_more) (length_exact 1 N.n N.arcs and length_exact 2 N.n r and no_more)
    (λ none s. arcs_exact (components N) N.n N.arcs and routes_exact (components N) N.n r and e)

-- 01's order
pub fresh_numbers : (l : Language) (n : ℕ) (r : List ℕ) → refusal_numbers (fresh_cases l n r) ≡ 3 ∷ 5 ∷ 4 ∷ 9 ∷ 10 ∷ 10 ∷ []
fresh_numbers l n r = refl

pub equation_numbers : (N : OnNetwork) (r : List ℕ) → refusal_numbers (equation_cases N r) ≡ 3 ∷ 5 ∷ 4 ∷ 9 ∷ 9 ∷ 10 ∷ 10 ∷ 6 ∷ 6 ∷ []
equation_numbers N r = refl

pub fresh_told : (l : Language) (n : ℕ) (r : List ℕ) → ToldExactly (fresh_cases l n r) (answer_told (fresh_check l n r))
fresh_told l n r = told_exactly (fresh_cases l n r) (fresh_exact l n r) (answer_told (fresh_check l n r)) refl

pub equation_told : (N : OnNetwork) (r : List ℕ) → ToldExactly (equation_cases N r) (equation_row N r).told
equation_told N r = told_exactly (equation_cases N r) (matrices_exact N r no_more) (equation_row N r).told refl
