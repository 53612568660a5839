-- Sums stay small: a path that visits no node twice has at most n - 1 arcs, so what the steps store is at most n - 1 times an arc's sum.
use Prim.Native.Nat.{ℕ, suc, ◌+◌, ◌*◌, ◌≤◌, ◌<◌}
use mathlib.Core.Path.{◌≡◌}
use mathlib.Core.Logic.{inl, inr}
use mathlib.Core.List.{List, [], ◌∷◌}
use lib.ListN.{length}
use native.Mathlib.Omega.{arith}
use native.Mathlib.Nat.{mul-le-mul_right}
use Rattle.algebra.specs.Algebra.{Algebra}
use Rattle.algebra.specs.Path.{Below, Matrix, path_weight}
use Rattle.algebra.specs.Best.{OfSimplePath}
use Rattle.algebra.specs.Step.{Step, routed, reached}
use Rattle.algebra.specs.Network.{Network}
use Rattle.algebra.proofs.Paths.{simple_short}
use Rattle.algebra.proofs.Reach.{entry_held, stored_held}

-- A size of weights that adds up under join at most.
pub record Size (𝓐 : Algebra) (size : 𝓐.Weight → ℕ) : Type 0 where
  pub of_unit : size 𝓐.unit ≡ 0
  pub of_none : size 𝓐.none ≡ 0
  pub of_join : (x y : 𝓐.Weight) → size (𝓐.join x y) ≤ size x + size y

module _ (𝓐 : Algebra) (size : 𝓐.Weight → ℕ) (z : Size 𝓐 size) (n : ℕ) (A : Matrix 𝓐) (b : ℕ) (small : (i k : ℕ) → i < n → k < n → size (A i k) ≤ b) where
  -- a path of m arcs has at most size m * b
  pub weight_size : (i : ℕ) (p : List ℕ) → Below n (i ∷ p) → size (path_weight 𝓐 A i p) ≤ length p * b
  weight_size i [] h = omega (arith, z.of_unit)
  weight_size i (k ∷ p) h = omega (arith, z.of_join (A i k) (path_weight 𝓐 A k p), small i k h.0 h.1.0, weight_size k p h.1)

  -- what a path that visits no node twice weighs, for at most m + 1 nodes
  pub held_fits : (m : ℕ) → n ≤ suc m → (i j : ℕ) (w : 𝓐.Weight) → OfSimplePath 𝓐 n A i j w → size w ≤ m * b
  held_fits m few i j w (inl e) = rw e (omega (arith, z.of_none))
  held_fits m few i j w (inr (p, s, e)) =
      let short : length p < n = simple_short s in
      let fewer : length p ≤ m = omega arith in
      rw (← e) (omega (arith, weight_size i p s.below, mul-le-mul_right b fewer))

-- On at most m + 1 nodes, with arcs of size at most b: what is held, and what a row step would store, is at most m * b.
module _ (N : Network) (size : N.𝓐.Weight → ℕ) (z : Size N.𝓐 size) (m b : ℕ) (few : N.n ≤ suc m) (small : (i k : ℕ) → i < N.n → k < N.n → size (N.A i k) ≤ b) where
  open N use {𝓐, n, A}

  pub entry_fits_lem : (steps : List Step) (i j : ℕ) → i < n → size (reached 𝓐 n A steps i j) ≤ m * b
  entry_fits_lem steps i j h = held_fits 𝓐 size z n A b small m few i j (reached 𝓐 n A steps i j) (entry_held N steps i j h)

  pub stored_fits : (steps : List Step) (i j : ℕ) → i < n → size (routed 𝓐 n A (reached 𝓐 n A steps) i j) ≤ m * b
  stored_fits steps i j h = held_fits 𝓐 size z n A b small m few i j (routed 𝓐 n A (reached 𝓐 n A steps) i j) (stored_held N steps i j h)
