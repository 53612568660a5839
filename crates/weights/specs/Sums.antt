-- The sums in a weight: the values of its dist and gain components (01, "Weights": arcs, matrices and tables bound them).
-- To be believed: all of it.
use Rattle.std.specs.Prelude.{ℕ, zero, suc, List, [], ◌∷◌}
use Rattle.weights.specs.declared.Component.{Component}
use Rattle.weights.specs.declared.Component.TheVariants.{Dist, Width, Class, Gain}
use Rattle.weights.specs.Weights.{Weight, none, route}

-- the value of a component that is a sum; 0 for the others
abbrev pub sum_here : Component → ℕ → ℕ
sum_here Dist x = x
sum_here (Width w) x = 0
sum_here (Class k) x = 0
sum_here Gain x = x

-- the sum at component c; 0 where there is none
abbrev pub sum_of : List Component → ℕ → List ℕ → ℕ
sum_of [] c xs = 0
sum_of (k ∷ ks) c [] = 0
sum_of (k ∷ ks) zero (x ∷ xs) = sum_here k x
sum_of (k ∷ ks) (suc c) (x ∷ xs) = sum_of ks c xs

-- the sum of a weight at component c; no route has none
abbrev pub sum_at : List Component → ℕ → Weight → ℕ
sum_at cs c none = 0
sum_at cs c (route xs) = sum_of cs c xs
