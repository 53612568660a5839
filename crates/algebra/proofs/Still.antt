-- A matrix that satisfies the routing equation is changed by no row step, so sweeping never repairs one that is not the best.
use Prim.Native.Nat.{ℕ, ◌<◌}
use mathlib.Core.Path.{◌≡◌, refl, sym, ◌∙◌, ap}
use mathlib.Core.Bool.{Bool, true, false, cond}
use mathlib.Core.List.{List, [], ◌∷◌, map}
use lib.Dec.{eqb}
use Rattle.algebra.specs.Algebra.{Algebra, order}
use Rattle.algebra.specs.Path.{Matrix}
use Rattle.algebra.specs.Step.{row, fresh, through, routed, Solves, step, run}
use Rattle.algebra.proofs.Orders.{best_of_same}

module _ (𝓐 : Algebra) (n : ℕ) (A : Matrix 𝓐) where
  -- the two matrices agree on the n x n entries
  abbrev pub Agree : Matrix 𝓐 → Matrix 𝓐 → Type 0
  Agree R S = (i j : ℕ) → i < n → j < n → R i j ≡ S i j

  pub routed_agree : (R S : Matrix 𝓐) → Agree R S → (i j : ℕ) → j < n → routed 𝓐 n A R i j ≡ routed 𝓐 n A S i j
  unfolding routed
  routed_agree R S a i j l = best_of_same (order 𝓐) n (through 𝓐 A R i j) (through 𝓐 A S i j) (fresh 𝓐 i j) (λ k h. ap (𝓐.join (A i k)) (a k j h l))

  row_still : (R S : Matrix 𝓐) (u : ℕ) → Solves 𝓐 n A R → Agree S R → Agree (step 𝓐 n A (row u) S) R
  row_still R S u e a i j h l = go (eqb i u)
    where
      go : (b : Bool) → cond b (routed 𝓐 n A S i j) (S i j) ≡ R i j
      go true = routed_agree S R a i j l ∙ sym (e i j h l)
      go false = a i j h l

  -- no list of row steps changes a matrix that satisfies the equation
  pub rows_still : (R : Matrix 𝓐) → Solves 𝓐 n A R → (rows : List ℕ) → Agree (run 𝓐 n A (map row rows) R) R
  rows_still R e rows = go rows R (λ i j h l. refl)
    where
      go : (rows : List ℕ) (S : Matrix 𝓐) → Agree S R → Agree (run 𝓐 n A (map row rows) S) R
      go [] S a = a
      go (u ∷ rows) S a = go rows (step 𝓐 n A (row u) S) (row_still R S u e a)
