-- What the code's languages mean, and the checks of a language (refusals 5 and 4).
-- To be believed: all but `limits_from`, `padded`, `places_of` and `CheckSays`, which join the code to the rest.
use Rattle.std.specs.Prelude.{ℕ, zero, suc, ◌≤◌, ◌≡◌, Bool, true, ◌&&◌, List, [], ◌∷◌, leb, take, Result, Ok, Err}
use Rattle.refusals.specs.declared.Refusal.TheVariants.{BadComponent, BadCount}
use Rattle.refusals.specs.Cases.{Case, due_unless, first_from, due_at_first, check_of}
use Rattle.weights.specs.declared.Component.{Component}
use Rattle.weights.specs.declared.Component.TheVariants.{Dist, Width, Class, Gain}
use Rattle.weights.specs.declared.Language.{Language}
use Rattle.weights.specs.declared.PerPlace.{PerPlace}
use Rattle.weights.specs.Sizes.{places}
use Rattle.weights.specs.Weights.{SoundLimit}
use Rattle.refusals.specs.Checks.{Check}
use Rattle.refusals.specs.declared.Refusal.{Refusal}

-- ---- a language in calls

-- A language means its first `count` components; the places after them are ignored.
abbrev pub components_of : Language → List Component
components_of l = take l.count (l.first ∷ l.second ∷ l.third ∷ l.fourth ∷ [])

-- the count is 1 to 4
abbrev pub CountInRange : Language → Type 0
CountInRange l = (1 ≤ l.count) × (l.count ≤ places)

-- refusal 5: the count is not 1 to 4
abbrev pub count_case : Language → Case
count_case l = due_unless (leb 1 l.count && leb l.count places) (CountInRange l) (BadCount 0) 0

-- width has a limit from 1: a test
abbrev pub sound_limit : Component → Bool
sound_limit Dist = true
sound_limit (Width w) = leb 1 w
sound_limit (Class c) = true
sound_limit Gain = true

-- refusal 4: of the components that count, the first with a width limit 0
abbrev pub limit_case : Language → Case
limit_case l = due_at_first sound_limit SoundLimit (BadComponent 0) (components_of l)

-- refusals 5 and 4, in this order
abbrev pub language_cases : Language → List Case
language_cases l = count_case l ∷ limit_case l ∷ []

-- 4's check from a component on, counted from i
abbrev pub limits_from : ℕ → List Component → Check
limits_from i cs = first_from sound_limit (BadComponent 0) i cs

-- ---- the places that code works on

-- The components, with class 0, whose single value is the unused word 0, in each place after them.
abbrev pub padded : ℕ → List Component → List Component
padded zero cs = []
padded (suc n) [] = Class 0 ∷ padded n []
padded (suc n) (c ∷ cs) = c ∷ padded n cs

-- the four places that the code works on, as a list of components
abbrev pub places_of : PerPlace Component → List Component
places_of p = p.first ∷ p.second ∷ p.third ∷ p.fourth ∷ []

-- a width's or a class's limit is at most n
abbrev pub SmallLimit : ℕ → Component → Type 0
SmallLimit n Dist = Unit {0}
SmallLimit n (Width w) = w ≤ n
SmallLimit n (Class c) = c ≤ n
SmallLimit n Gain = Unit {0}

-- every limit of the components is at most n
abbrev pub SmallLimits : ℕ → List Component → Type 0
SmallLimits n [] = Unit {0}
SmallLimits n (c ∷ cs) = SmallLimit n c × SmallLimits n cs

-- ---- the checks of a language

-- refusals 5 and 4, in this order
abbrev pub language_check : Language → Check
language_check l = check_of (language_cases l)

-- the language passes, with its places, or is refused
abbrev pub CheckSays : Language → Result (PerPlace Component) Refusal → Type 0
CheckSays l (Ok p) = (language_check l ≡ Ok tt) × (places_of p ≡ padded places (components_of l)) × SmallLimits 65535 (places_of p)
CheckSays l (Err r) = language_check l ≡ Err r
