-- A weight of the code: its values, how large they are, and how two of them compare.
-- To be believed: `same` and `same_values`. The rest joins the code's weights to Weights.
use Rattle.std.specs.Prelude.{ℕ, ◌≤◌, Bool, true, false, cond, ◌&&◌, List, [], ◌∷◌, eqb}
use Rattle.weights.specs.declared.Component.{Component}
use Rattle.weights.specs.declared.Weight as declared
use Rattle.weights.specs.declared.Weight.TheVariants.{Route, NoRoute}
use Rattle.weights.specs.declared.Comparison.{Comparison}
use Rattle.weights.specs.declared.Comparison.TheVariants.{Better, Equal, Worse}
use Rattle.weights.specs.Weights.{Weight, none, route, better}

-- ---- a weight of the code, a value for each place

-- the weight that the code's stands for: four values, or no route
abbrev pub weight_of : declared.Weight → Weight
weight_of (Route a b c d) = route (a ∷ b ∷ c ∷ d ∷ [])
weight_of NoRoute = none

-- every value is at most n
abbrev pub AllAtMost : ℕ → List ℕ → Type 0
AllAtMost n [] = Unit {0}
AllAtMost n (x ∷ xs) = (x ≤ n) × AllAtMost n xs

-- every value of a route is at most n; of no route nothing is said
abbrev pub AtMost : ℕ → Weight → Type 0
AtMost n none = Unit {0}
AtMost n (route xs) = AllAtMost n xs

-- ---- comparing

-- the weight is a route: a test
abbrev pub is_route : Weight → Bool
is_route none = false
is_route (route xs) = true

-- better, worse, or neither
abbrev pub compared : List Component → Weight → Weight → Comparison
compared cs x y = cond (better cs x y) Better (cond (better cs y x) Worse Equal)

-- the two lists have the same values, and as many: a test
abbrev pub same_values : List ℕ → List ℕ → Bool
same_values [] [] = true
same_values [] (y ∷ ys) = false
same_values (x ∷ xs) [] = false
same_values (x ∷ xs) (y ∷ ys) = eqb x y && same_values xs ys

-- the two weights are the same, no route or values: a test
abbrev pub same : Weight → Weight → Bool
same none none = true
same none (route ys) = false
same (route xs) none = false
same (route xs) (route ys) = same_values xs ys
