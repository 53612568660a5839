-- Refusal 11 in words: the first row step of a list that would store a sum above 983,025.
-- To be believed: all of it.
use Rattle.std.specs.Prelude.{ℕ, zero, suc, ◌<◌, ◌≡◌, List, [], ◌∷◌, ◌⊎◌}
use Rattle.algebra.specs.Step.{Step, row, routed, step}
use Rattle.weights.specs.declared.Component.{Component}
use Rattle.weights.specs.declared.Component.TheVariants.{Dist, Width, Class, Gain}
use Rattle.weights.specs.Sizes.{matrix_sum}
use Rattle.weights.specs.Weights.{Weight, none, route, language}
use Rattle.matrices.specs.Steps.{Matrix}

-- the values of dist and gain are sums
abbrev pub IsSum : Component → Type 0
IsSum Dist = Unit {0}
IsSum (Width w) = ⊥
IsSum (Class c) = ⊥
IsSum Gain = Unit {0}

-- some sum is above 983,025
abbrev pub SumOver : List Component → List ℕ → Type 0
SumOver [] xs = ⊥
SumOver (c ∷ cs) [] = ⊥
SumOver (c ∷ cs) (x ∷ xs) = (IsSum c × (matrix_sum < x)) ⊎ SumOver cs xs

-- some sum of a weight is above 983,025; no route has none
abbrev pub WeightOver : List Component → Weight → Type 0
WeightOver cs none = ⊥
WeightOver cs (route xs) = SumOver cs xs

-- row step i would store a sum above 983,025, at some j
abbrev pub RowOver : List Component → ℕ → Matrix → Matrix → ℕ → Type 0
RowOver cs n A R i = (j : ℕ) × (j < n) × WeightOver cs (routed (language cs) n A R i j)

-- the step is a row step that would
abbrev pub StepOver : List Component → ℕ → Matrix → Matrix → Step → Type 0
StepOver cs n A R s = (i : ℕ) × (s ≡ row i) × RowOver cs n A R i

-- step k is the first that would, each step run on what those before it leave
abbrev pub StopsAt : List Component → ℕ → Matrix → Matrix → ℕ → List Step → Type 0
StopsAt cs n A R k [] = ⊥
StopsAt cs n A R zero (s ∷ steps) = StepOver cs n A R s
StopsAt cs n A R (suc k) (s ∷ steps) = (StepOver cs n A R s → ⊥) × StopsAt cs n A (step (language cs) n A s R) k steps
