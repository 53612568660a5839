-- How a settle step can be computed: the best weights of a column are what n - 1 sweeps make of the fresh column,
-- and row steps work on a column by itself.
use Prim.Native.Nat.{ℕ, zero, suc, ◌≤◌, ◌<◌}
use mathlib.Core.Path.{◌≡◌, refl, sym, ◌∙◌, ap}
use mathlib.Core.Bool.{cond}
use mathlib.Core.Logic.{◌⊎◌, inl, inr}
use mathlib.Core.List.{List, [], ◌∷◌, ◌++◌, map, append_assoc, append-nil}
use lib.Dec.{eqb}
use native.Mathlib.Omega.{arith}
use Rattle.algebra.specs.Algebra.{Algebra, order}
use Rattle.algebra.specs.Order.{best_of}
use Rattle.algebra.specs.Path.{Mem, Matrix}
use Rattle.algebra.specs.Best.{best}
use Rattle.algebra.specs.Step.{Step, row, EveryRow, Stretches, sweep, sweeps, fresh, routed, step, run, reached}
use Rattle.algebra.proofs.Orders.{below_suc}
use Rattle.algebra.specs.Network.{Network}
use Rattle.algebra.proofs.Enumeration.{mem_left, mem_right}
use Rattle.algebra.proofs.Bests.{best_is, best_unique}
use Rattle.algebra.proofs.Reach.{swept_best}

-- a sweep is a stretch, and k sweeps are k stretches
pub sweep_every : (n : ℕ) → EveryRow n (sweep n)
sweep_every zero i h = absurd (omega arith)
sweep_every (suc n) i h = go (below_suc i n h) (λ l. sweep_every n i l)
  where
    go : (i < n) ⊎ (i ≡ n) → (i < n → Mem (row i) (sweep n)) → Mem (row i) (sweep n ++ (row n ∷ []))
    go (inl l) ih = mem_left (row i) (sweep n) (row n ∷ []) (ih l)
    go (inr e) ih = mem_right (row i) (sweep n) (row n ∷ []) (inl (ap row e))

sweeps_front : (n k : ℕ) → sweeps n (suc k) ≡ sweep n ++ sweeps n k
sweeps_front n zero = sym (append-nil (sweep n))
sweeps_front n (suc k) = ap (λ (l : List Step). l ++ sweep n) (sweeps_front n k) ∙ append_assoc (sweep n) (sweeps n k) (sweep n)

pub sweeps_stretches : (n k : ℕ) → Stretches n k (sweeps n k)
sweeps_stretches n zero = tt
sweeps_stretches n (suc k) = (sweep n, sweeps n k, sweeps_front n k, sweep_every n, sweeps_stretches n k)

module _ (𝓐 : Algebra) (n : ℕ) (A : Matrix 𝓐) (j : ℕ) where
  open 𝓐 use {Weight, join}

  -- what a row step puts at row u of a column with target j
  abbrev pub column_routed : (ℕ → Weight) → ℕ → Weight
  column_routed x u = best_of (order 𝓐) n (λ k. join (A u k) (x k)) (fresh 𝓐 u j)

  -- row step i on column j alone
  abbrev pub column_step : ℕ → (ℕ → Weight) → ℕ → Weight
  column_step i x u = cond (eqb u i) (column_routed x u) (x u)

  abbrev pub column_run : List ℕ → (ℕ → Weight) → ℕ → Weight
  column_run [] x = x
  column_run (i ∷ rows) x = column_run rows (column_step i x)

  -- row steps on a matrix work on each column by itself
  pub column_alone : (rows : List ℕ) (R : Matrix 𝓐) (u : ℕ) → run 𝓐 n A (map row rows) R u j ≡ column_run rows (λ k. R k j) u
  unfolding routed
  column_alone [] R u = refl
  column_alone (i ∷ rows) R u = column_alone rows (step 𝓐 n A (row i) R) u

-- The best weights are what n - 1 sweeps make of the fresh matrix.
pub best_by_sweeps : (N : Network) (k : ℕ) → N.n ≤ suc k → (i j : ℕ) → i < N.n → best N.𝓐 N.n N.A i j ≡ reached N.𝓐 N.n N.A (sweeps N.n k) i j
best_by_sweeps N k h i j l = best_unique N (best_is N i j l) (swept_best N k (sweeps N.n k) h (sweeps_stretches N.n k) j i l)
