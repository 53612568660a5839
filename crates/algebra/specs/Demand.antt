-- Demand 3, of a network A of n nodes and of the matrix that the steps reach from the fresh one.
-- To be believed: the record. That every lawful algebra meets it is the theorem `demand_3` (proofs/Demands).
use Rattle.std.specs.Prelude.{ℕ, suc, ◌≤◌, ◌<◌, ◌≡◌, false, List, [], ◌∷◌, ◌++◌}
use Rattle.algebra.specs.Algebra.{Algebra}
use Rattle.algebra.specs.Path.{Mem, Matrix}
use Rattle.algebra.specs.Best.{OfSimplePath, Best, best}
use Rattle.algebra.specs.Step.{Step, settle, Stretches, routed, reached}

-- Column j holds the best weights over paths that visit no node twice.
abbrev pub HoldsBest : (𝓐 : Algebra) → ℕ → Matrix 𝓐 → Matrix 𝓐 → ℕ → Type 0
HoldsBest 𝓐 n A R j = (i : ℕ) → i < n → Best 𝓐 n A i j (R i j)

-- Demand 3 of the matrix that these steps reach from fresh on one unchanged A, and why 11 never comes (`stored`).
pub record Demand3 (𝓐 : Algebra) (n : ℕ) (A : Matrix 𝓐) (steps : List Step) : Type 0 where
  -- no entry is better than the true best
  pub never_better : (i j : ℕ) → i < n → 𝓐.better (reached 𝓐 n A steps i j) (best 𝓐 n A i j) ≡ false
  -- a further step makes no entry worse
  pub never_worse : (s : Step) (i j : ℕ) → i < n → 𝓐.better (reached 𝓐 n A steps i j) (reached 𝓐 n A (steps ++ s ∷ []) i j) ≡ false
  -- a column that has been settled holds the best, whatever follows
  pub settled : (j : ℕ) → Mem (settle j) steps → HoldsBest 𝓐 n A (reached 𝓐 n A steps) j
  -- after n - 1 stretches, one after another, each with every row step, every column holds the best, whatever follows
  pub swept : (m : ℕ) → n ≤ suc m → Stretches n m steps → (j : ℕ) → HoldsBest 𝓐 n A (reached 𝓐 n A steps) j
  -- what a row step would store is no route or the weight of a path that visits no node twice
  pub stored : (i j : ℕ) → i < n → OfSimplePath 𝓐 n A i j (routed 𝓐 n A (reached 𝓐 n A steps) i j)
