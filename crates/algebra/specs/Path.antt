-- Paths through a network and their weights. A path from a node is the list of the nodes that follow it:
-- from i, [] stays at i, and k ∷ p takes the arc from i to k and goes on from k by p.
-- To be believed: all of it.
use Rattle.std.specs.Prelude.{ℕ, ◌<◌, ◌≡◌, ◌⊎◌, List, [], ◌∷◌}
use Rattle.algebra.specs.Algebra.{Algebra}

-- a stands in the list
abbrev pub Mem : {A : Type 0} → A → List A → Type 0
Mem a [] = ⊥
Mem a (b ∷ l) = (a ≡ b) ⊎ Mem a l

-- every number in the list is below n
abbrev pub Below : ℕ → List ℕ → Type 0
Below n [] = Unit {0}
Below n (i ∷ l) = (i < n) × Below n l

-- no number stands in the list twice
abbrev pub Distinct : List ℕ → Type 0
Distinct [] = Unit {0}
Distinct (i ∷ l) = (¬ Mem i l) × Distinct l

-- where the path p from i ends
abbrev pub end : ℕ → List ℕ → ℕ
end i [] = i
end i (k ∷ p) = end k p

-- The path p leads from i to j among the nodes 0 .. n - 1 and visits no node twice.
pub record Simple (n i j : ℕ) (p : List ℕ) : Type 0 where
  pub ends : end i p ≡ j
  pub below : Below n (i ∷ p)
  pub distinct : Distinct (i ∷ p)

-- A network's arcs, or routes: a weight for each pair of nodes.
abbrev pub Matrix : Algebra → Type 0
Matrix 𝓐 = ℕ → ℕ → 𝓐.Weight

-- The n x n entries are valid weights.
abbrev pub ValidMatrix : (𝓐 : Algebra) → ℕ → Matrix 𝓐 → Type 0
ValidMatrix 𝓐 n A = (i k : ℕ) → i < n → k < n → 𝓐.Valid (A i k)

-- The weight of the path p from i: its arcs joined; the empty path weighs the unit.
abbrev pub path_weight : (𝓐 : Algebra) → Matrix 𝓐 → ℕ → List ℕ → 𝓐.Weight
path_weight 𝓐 A i [] = 𝓐.unit
path_weight 𝓐 A i (k ∷ p) = 𝓐.join (A i k) (path_weight 𝓐 A k p)
