-- A table's entries and the three modes (01, "Forwarding and the next hop"), over any language.
-- To be believed: all but `entry_of`, which joins the code to the rest.
use Rattle.std.specs.Prelude.{ℕ, ◌≤◌, Bool, true, false, cond, List, [], ◌∷◌, ltb, leb, eqb, Option, Some, None}
use Rattle.algebra.specs.Modes as modes
use Rattle.weights.specs.declared.Component.{Component}
use Rattle.weights.specs.Weights.{Weight, none, route, ValidValues, better, join, language}
use Rattle.modes.specs.declared.Mode.{Mode}
use Rattle.modes.specs.declared.Mode.TheVariants.{Plain, Hot, Cold}
use Rattle.modes.specs.declared.Entry as declared
use Rattle.modes.specs.declared.Entry.TheVariants.{Mapped, Empty}

-- Empty, or a route's values with an outside number t.
pub data Entry : Type 0 where
  empty : Entry
  mapped : List ℕ → ℕ → Entry

-- an entry of the code, a value for each place
abbrev pub entry_of : declared.Entry → Entry
entry_of (Mapped a b c d t) = mapped (a ∷ b ∷ c ∷ d ∷ []) t
entry_of Empty = empty

-- ---- two weights, each with its t

-- Is the first weight, with its t, better than the second with its own?
abbrev pub Comparing : Type 0
Comparing = Weight → ℕ → Weight → ℕ → Bool

-- by one order, and where that prefers neither by another
abbrev pub first_then : Bool → Bool → Bool → Bool
first_then better worse next = cond better true (cond worse false next)

-- weights alone
abbrev pub by_weight : List Component → Comparing
by_weight cs x t y u = better cs x y

-- the weight, then an order on t
abbrev pub by_weight_then_t : (ℕ → ℕ → Bool) → List Component → Comparing
by_weight_then_t better_t cs x t y u = first_then (better cs x y) (better cs y x) (better_t t u)

-- an order on t, then the weight
abbrev pub by_t_then_weight : (ℕ → ℕ → Bool) → List Component → Comparing
by_t_then_weight better_t cs x t y u = first_then (better_t t u) (better_t u t) (better cs x y)

-- Mode 1, plain, compares weights; mode 2, hot, weight then smaller t; mode 3, cold, smaller t then weight.
abbrev pub comparing : Mode → List Component → Comparing
comparing Plain cs = by_weight cs
comparing Hot cs = by_weight_then_t ltb cs
comparing Cold cs = by_t_then_weight ltb cs

-- ---- entries

-- empty is worst
abbrev pub better_entry : Comparing → Entry → Entry → Bool
better_entry c empty f = false
better_entry c (mapped xs t) empty = true
better_entry c (mapped xs t) (mapped ys u) = c (route xs) t (route ys) u

-- the entry of a weight and t; no route gives empty
abbrev pub with_t : Weight → ℕ → Entry
with_t none t = empty
with_t (route xs) t = mapped xs t

-- A weight applied to an entry: join the weight, keep t; no route or empty gives empty.
abbrev pub applied : List Component → Weight → Entry → Entry
applied cs w empty = empty
applied cs w (mapped ys t) = with_t (join cs w (route ys)) t

-- The largest t of a mode.
abbrev pub largest_t : Mode → ℕ
largest_t Plain = 0
largest_t Hot = 65535
largest_t Cold = 65535

-- t is one of the mode's
abbrev pub ValidT : Mode → ℕ → Type 0
ValidT mode t = t ≤ largest_t mode

-- the entries of the language whose t is allowed
abbrev pub ValidEntry : (ℕ → Type 0) → List Component → Entry → Type 0
ValidEntry allowed cs empty = Unit {0}
ValidEntry allowed cs (mapped xs t) = ValidValues cs xs × allowed t

-- ---- the modes of forwarding

-- entries compared in a given way
abbrev pub mode_by : (ℕ → Type 0) → (cs : List Component) → Comparing → modes.Mode (language cs)
mode_by allowed cs c = record { entries = record { Thing = Entry; Valid = ValidEntry allowed cs; better = better_entry c }; empty = empty; apply = applied cs }

-- The three modes: the sum and the equation of forwarding are those of `algebra` at this.
abbrev pub mode_of : Mode → (cs : List Component) → modes.Mode (language cs)
mode_of mode cs = mode_by (ValidT mode) cs (comparing mode cs)

-- the mode of a number
abbrev pub numbered : ℕ → Option Mode
numbered number = cond (eqb number 1) (Some Plain) (cond (eqb number 2) (Some Hot) (cond (eqb number 3) (Some Cold) None))

-- Whether a mode fits the language and the number of destinations: each mode fits every language, and none fits m 0.
abbrev pub mode_for : List Component → ℕ → ℕ → Option Mode
mode_for cs m number = cond (leb 1 m) (numbered number) None

-- The mode needs law C besides D and U.
abbrev pub needs_c : Mode → Bool
needs_c Plain = false
needs_c Hot = true
needs_c Cold = false
