-- The best weight over the paths from i to j that visit no node twice: `Best` says what it is, `best` computes it.
-- To be believed: `OfSimplePath` and `Best`. That `best` is `Best`, and that there is only one, are theorems (proofs/Bests).
use Rattle.std.specs.Prelude.{ℕ, zero, suc, ◌≡◌, Bool, false, cond, ◌||◌, ◌⊎◌, List, [], ◌∷◌, ◌++◌, map, eqb}
use Rattle.algebra.specs.Algebra.{Algebra, order}
use Rattle.algebra.specs.Order.{pick}
use Rattle.algebra.specs.Path.{Simple, Matrix, path_weight}

module _ (𝓐 : Algebra) where
  open 𝓐 use {Weight, better, none}

  -- w is no route, or the weight of a path from i to j that visits no node twice.
  abbrev pub OfSimplePath : ℕ → Matrix 𝓐 → ℕ → ℕ → Weight → Type 0
  OfSimplePath n A i j w = (w ≡ none) ⊎ ((p : List ℕ) × Simple n i j p × (path_weight 𝓐 A i p ≡ w))

  -- w is the best weight over the paths from i to j that visit no node twice: no such path is better.
  pub record Best (n : ℕ) (A : Matrix 𝓐) (i j : ℕ) (w : Weight) : Type 0 where
    pub held : OfSimplePath n A i j w
    pub unbeaten : (p : List ℕ) → Simple n i j p → better (path_weight 𝓐 A i p) w ≡ false

-- a stands in the list: a test
abbrev pub is_in : ℕ → List ℕ → Bool
is_in a [] = false
is_in a (b ∷ l) = eqb a b || is_in a l

-- the lists f 0, .., f (n - 1), one after another
abbrev pub for_each : {A : Type 0} → ℕ → (ℕ → List A) → List A
for_each zero f = []
for_each (suc n) f = for_each n f ++ f n

-- the paths from i to j of at most m arcs that visit no node twice and none of the nodes in seen
abbrev pub simple_paths : (n m : ℕ) → List ℕ → ℕ → ℕ → List (List ℕ)
simple_paths n zero seen i j = cond (eqb i j) ([] ∷ []) []
simple_paths n (suc m) seen i j = cond (eqb i j) ([] ∷ []) [] ++ for_each n (λ k. cond (is_in k (i ∷ seen)) [] (map (k ∷◌) (simple_paths n m (i ∷ seen) k j)))

module _ (𝓐 : Algebra) where
  open 𝓐 use {Weight, none}

  -- the best weight of the paths of a list, all from i; no route where there is none
  unfoldable pub best_among : Matrix 𝓐 → ℕ → List (List ℕ) → Weight
  best_among A i [] = none
  best_among A i (p ∷ ps) = pick (order 𝓐) (best_among A i ps) (path_weight 𝓐 A i p)

  -- The best weight from i to j, computed.
  unfoldable pub best : ℕ → Matrix 𝓐 → Matrix 𝓐
  best n A i j = best_among A i (simple_paths n n [] i j)
