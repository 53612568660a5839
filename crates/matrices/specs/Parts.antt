-- What the functions of `arcs` and `rows` say and rely on, on the way to Buffers and Steps: one arc taken into a row, rows with no
-- value above 983,025, rows that are the same, and languages of one component.
-- They join the code to those; nothing here has to be believed.
use Rattle.std.specs.Prelude.{ℕ, ◌≡◌, Bool, true, ◌&&◌, List, [], ◌∷◌, leb}
use Rattle.weights.specs.declared.Component.{Component}
use Rattle.weights.specs.declared.Component.TheVariants.{Class}
use Rattle.weights.specs.declared.PerPlace.{PerPlace}
use Rattle.weights.specs.Sizes.{places, matrix_sum}
use Rattle.weights.specs.Weights.{Weight, none, route, join, better_of}
use Rattle.weights.specs.Values.{same}
use Rattle.matrices.specs.Buffers.{row_in}

-- ---- a row

-- a row with the arc x, joined what y holds, taken into it
abbrev pub folded : List Component → Weight → (ℕ → Weight) → (ℕ → Weight) → ℕ → Weight
folded cs x y g j = better_of cs (g j) (join cs x (y j))

-- no value is above 983,025
abbrev pub all_low : List ℕ → Bool
all_low [] = true
all_low (x ∷ xs) = leb x matrix_sum && all_low xs

-- no value of the weight is above 983,025; no route has none
abbrev pub low : Weight → Bool
low none = true
low (route xs) = all_low xs

-- entry j of the row in a buffer is low
abbrev pub low_at : List ℕ → ℕ → Bool
low_at s j = low (row_in places s j)

-- two rows have the same entry at j
abbrev pub same_at : (ℕ → Weight) → (ℕ → Weight) → ℕ → Bool
same_at f g j = same (f j) (g j)

-- ---- languages of one component

-- a weight's first value, with words 0 after it
abbrev pub first_only : Weight → Weight
first_only none = none
first_only (route []) = route []
first_only (route (x ∷ xs)) = route (x ∷ 0 ∷ 0 ∷ 0 ∷ [])

-- x joined y has no value but the first
pub record FirstAlone (cs : List Component) (x y : Weight) : Type 0 where
  pub alone : join cs x y ≡ first_only (join cs x y)

-- every place after the first is unused
pub record Single (p : PerPlace Component) : Type 0 where
  pub second : p.second ≡ Class 0
  pub third : p.third ≡ Class 0
  pub fourth : p.fourth ≡ Class 0
