-- The steps on a routing matrix (01, "Steps") and the routing equation.
-- To be believed: all of it.
use Rattle.std.specs.Prelude.{ℕ, zero, suc, ◌<◌, ◌≡◌, cond, List, [], ◌∷◌, ◌++◌, eqb}
use Rattle.algebra.specs.Algebra.{Algebra, order}
use Rattle.algebra.specs.Order.{best_of}
use Rattle.algebra.specs.Path.{Matrix, Mem}
use Rattle.algebra.specs.Best.{best}

-- Row step i works out row i anew; settle step j sets column j to the best weights.
pub data Step : Type 0 where
  row : ℕ → Step
  settle : ℕ → Step

-- Among the steps is a row step for every row.
abbrev pub EveryRow : ℕ → List Step → Type 0
EveryRow n steps = (i : ℕ) → i < n → Mem (row i) steps

-- The steps contain m stretches, one after another, each with every row step; other steps may stand in and between.
abbrev pub Stretches : ℕ → ℕ → List Step → Type 0
Stretches n zero steps = Unit {0}
Stretches n (suc m) steps = (first : List Step) × (others : List Step) × (steps ≡ first ++ others) × EveryRow n first × Stretches n m others

-- The row steps 0 .. n - 1 in order.
abbrev pub sweep : ℕ → List Step
sweep zero = []
sweep (suc n) = sweep n ++ (row n ∷ [])

-- k sweeps over n rows, one after another.
abbrev pub sweeps : ℕ → ℕ → List Step
sweeps n zero = []
sweeps n (suc k) = sweeps n k ++ sweep n

module _ (𝓐 : Algebra) where
  open 𝓐 use {Weight, join, unit, none}

  -- Units on the diagonal, no route elsewhere.
  abbrev pub fresh : Matrix 𝓐
  fresh i j = cond (eqb i j) unit none

  -- The weight from i to j by way of k: A(i,k) joined R(k,j).
  abbrev pub through : Matrix 𝓐 → Matrix 𝓐 → ℕ → ℕ → ℕ → Weight
  through A R i j k = join (A i k) (R k j)

  -- (A join R) best fresh: the best of A(i,k) joined R(k,j) over all k below n, k = i among them, and of the fresh entry.
  unfoldable pub routed : ℕ → Matrix 𝓐 → Matrix 𝓐 → Matrix 𝓐
  routed n A R i j = best_of (order 𝓐) n (through A R i j) (fresh i j)

  -- R satisfies the routing equation R = (A join R) best fresh.
  abbrev pub Solves : ℕ → Matrix 𝓐 → Matrix 𝓐 → Type 0
  Solves n A R = (i j : ℕ) → i < n → j < n → R i j ≡ routed n A R i j

  -- The matrix after one step.
  abbrev pub step : ℕ → Matrix 𝓐 → Step → Matrix 𝓐 → Matrix 𝓐
  step n A (row i) R = λ u v. cond (eqb u i) (routed n A R u v) (R u v)
  step n A (settle j) R = λ u v. cond (eqb v j) (best 𝓐 n A u v) (R u v)

  -- The matrix after the steps, done in order.
  abbrev pub run : ℕ → Matrix 𝓐 → List Step → Matrix 𝓐 → Matrix 𝓐
  run n A [] R = R
  run n A (s ∷ steps) R = run n A steps (step n A s R)

  -- The matrix that the steps reach from the fresh one.
  abbrev pub reached : ℕ → Matrix 𝓐 → List Step → Matrix 𝓐
  reached n A steps = run n A steps fresh
