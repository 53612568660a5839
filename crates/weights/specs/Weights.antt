-- Weights of a routing language (01, "Weights"). A language is a list of components, of any length.
-- To be believed: all of it.
use Rattle.std.specs.Prelude.{ℕ, ◌+◌, ◌≤◌, min, max, Bool, true, false, cond, List, [], ◌∷◌, ltb, eqb}
use Rattle.algebra.specs.Algebra.{Algebra, order}
use Rattle.algebra.specs.Order.{pick}
use Rattle.weights.specs.declared.Component.{Component}
use Rattle.weights.specs.declared.Component.TheVariants.{Dist, Width, Class, Gain}

-- ---- one component: 01's table

-- width has a limit from 1
abbrev pub SoundLimit : Component → Type 0
SoundLimit Dist = Unit {0}
SoundLimit (Width w) = 1 ≤ w
SoundLimit (Class c) = Unit {0}
SoundLimit Gain = Unit {0}

-- v is one of the component's values
abbrev pub ValidValue : Component → ℕ → Type 0
ValidValue Dist v = Unit {0}
ValidValue (Width w) v = (1 ≤ v) × (v ≤ w)
ValidValue (Class c) v = v ≤ c
ValidValue Gain v = Unit {0}

-- x is better than y
abbrev pub better_value : Component → ℕ → ℕ → Bool
better_value Dist x y = ltb x y
better_value (Width w) x y = ltb y x
better_value (Class c) x y = ltb x y
better_value Gain x y = ltb y x

-- sum, smaller of two, larger of two, sum
abbrev pub join_value : Component → ℕ → ℕ → ℕ
join_value Dist x y = x + y
join_value (Width w) x y = min x y
join_value (Class c) x y = max x y
join_value Gain x y = x + y

-- 0, the limit, 0, 0
abbrev pub unit_value : Component → ℕ
unit_value Dist = 0
unit_value (Width w) = w
unit_value (Class c) = 0
unit_value Gain = 0

-- width 1 and class 0 have a single value
abbrev pub trivial : Component → Bool
trivial Dist = false
trivial (Width w) = eqb w 1
trivial (Class c) = eqb c 0
trivial Gain = false

-- ---- a value for each component

-- every limit is sound
abbrev pub Sound : List Component → Type 0
Sound [] = Unit {0}
Sound (c ∷ cs) = SoundLimit c × Sound cs

-- one value of each component
abbrev pub ValidValues : List Component → List ℕ → Type 0
ValidValues [] [] = Unit {0}
ValidValues [] (x ∷ xs) = ⊥
ValidValues (c ∷ cs) [] = ⊥
ValidValues (c ∷ cs) (x ∷ xs) = ValidValue c x × ValidValues cs xs

-- compared component by component, the first difference deciding
abbrev pub better_values : List Component → List ℕ → List ℕ → Bool
better_values [] xs ys = false
better_values (c ∷ cs) [] ys = false
better_values (c ∷ cs) (x ∷ xs) [] = false
better_values (c ∷ cs) (x ∷ xs) (y ∷ ys) = cond (eqb x y) (better_values cs xs ys) (better_value c x y)

-- joined component by component
abbrev pub join_values : List Component → List ℕ → List ℕ → List ℕ
join_values [] xs ys = []
join_values (c ∷ cs) [] ys = []
join_values (c ∷ cs) (x ∷ xs) [] = []
join_values (c ∷ cs) (x ∷ xs) (y ∷ ys) = join_value c x y ∷ join_values cs xs ys

-- every component's unit
abbrev pub unit_values : List Component → List ℕ
unit_values [] = []
unit_values (c ∷ cs) = unit_value c ∷ unit_values cs

-- ---- weights

-- "no route", or one value per component
pub data Weight : Type 0 where
  none : Weight
  route : List ℕ → Weight

-- the weights of the language
abbrev pub Valid : List Component → Weight → Type 0
Valid cs none = Unit {0}
Valid cs (route xs) = ValidValues cs xs

-- no route is worst
abbrev pub better : List Component → Weight → Weight → Bool
better cs none y = false
better cs (route xs) none = true
better cs (route xs) (route ys) = better_values cs xs ys

-- no route joined with anything is no route
abbrev pub join : List Component → Weight → Weight → Weight
join cs none y = none
join cs (route xs) none = none
join cs (route xs) (route ys) = route (join_values cs xs ys)

-- the unit weight has every component's unit
abbrev pub unit : List Component → Weight
unit cs = route (unit_values cs)

-- the weight is a route
abbrev pub IsRoute : Weight → Type 0
IsRoute none = ⊥
IsRoute (route xs) = Unit {0}

-- The language as an algebra: the steps, the best paths and the equation are those of `algebra` at this.
abbrev pub language : List Component → Algebra
language cs = record { Weight = Weight; Valid = Valid cs; better = better cs; join = join cs; unit = unit cs; none = none }

-- the better of two weights
abbrev pub better_of : List Component → Weight → Weight → Weight
better_of cs = pick (order (language cs))
