-- What the first values alone tell of a join. They join the code to `better_of`; nothing here has to be believed.
use Rattle.std.specs.Prelude.{ℕ, Bool, false, List, [], ◌∷◌}
use Rattle.weights.specs.declared.Component.{Component}
use Rattle.weights.specs.Weights.{Weight, none, route, better_value, join_value}

-- the first of three lists has a better first value than the other two joined
abbrev pub loses_values : List Component → List ℕ → List ℕ → List ℕ → Bool
loses_values [] ws xs ys = false
loses_values (c ∷ cs) [] xs ys = false
loses_values (c ∷ cs) (w ∷ ws) [] ys = false
loses_values (c ∷ cs) (w ∷ ws) (x ∷ xs) [] = false
loses_values (c ∷ cs) (w ∷ ws) (x ∷ xs) (y ∷ ys) = better_value c w (join_value c x y)

-- three routes, the first of which has a better first value than the other two joined
abbrev pub loses : List Component → Weight → Weight → Weight → Bool
loses cs none x y = false
loses cs (route ws) none y = false
loses cs (route ws) (route xs) none = false
loses cs (route ws) (route xs) (route ys) = loses_values cs ws xs ys
