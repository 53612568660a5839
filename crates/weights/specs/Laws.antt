-- The three laws (01, "The three laws") over all weights of a language, the tests that decide them, and the weights that break one.
-- To be believed: `LawD`, `LawU`, `LawC`, `BreaksD`, `BreaksU`, `BreaksC` and the witnesses. That the tests decide the laws, and
-- that the witnesses break them, are theorems (proofs/Decided).
use Rattle.std.specs.Prelude.{ℕ, ◌≡◌, Bool, true, false, not, cond, ◌&&◌, ◌||◌, List, [], ◌∷◌}
use Rattle.weights.specs.declared.Component.{Component}
use Rattle.weights.specs.declared.Component.TheVariants.{Dist, Width, Class, Gain}
use Rattle.weights.specs.Weights.{Weight, Valid, IsRoute, better, join, unit, better_of, unit_value, trivial, unit_values}

-- ---- the laws

-- s joined with the better of x and y is the better of (s joined x) and (s joined y)
abbrev pub LawD : List Component → Type 0
LawD cs = (s x y : Weight) → Valid cs s → Valid cs x → Valid cs y → join cs s (better_of cs x y) ≡ better_of cs (join cs s x) (join cs s y)

-- no weight is better than the unit
abbrev pub LawU : List Component → Type 0
LawU cs = (x : Weight) → Valid cs x → better cs x (unit cs) ≡ false

-- if s joined x equals s joined y and is a route, then x = y
abbrev pub LawC : List Component → Type 0
LawC cs = (s x y : Weight) → Valid cs s → Valid cs x → Valid cs y → join cs s x ≡ join cs s y → IsRoute (join cs s x) → x ≡ y

-- ---- the tests

-- any component but width 1 and class 0, which have a single value
abbrev pub non_trivial : Component → Bool
non_trivial c = not (trivial c)

-- a non-trivial width or class: what it joins it forgets
abbrev pub lossy : Component → Bool
lossy Dist = false
lossy (Width w) = non_trivial (Width w)
lossy (Class c) = non_trivial (Class c)
lossy Gain = false

-- the one kind with values better than its unit, which law U forbids
abbrev pub is_gain : Component → Bool
is_gain Dist = false
is_gain (Width w) = false
is_gain (Class c) = false
is_gain Gain = true

-- some component is not trivial
abbrev pub some_non_trivial : List Component → Bool
some_non_trivial [] = false
some_non_trivial (c ∷ cs) = non_trivial c || some_non_trivial cs

-- c, with cs after it, is a non-trivial width or class that has a later non-trivial component
abbrev pub lossy_before : Component → List Component → Bool
lossy_before c cs = lossy c && some_non_trivial cs

-- no non-trivial width or class has a later non-trivial component: decides law D
abbrev pub test_d : List Component → Bool
test_d [] = true
test_d (c ∷ cs) = not (lossy_before c cs) && test_d cs

-- no component is a gain: decides law U
abbrev pub test_u : List Component → Bool
test_u [] = true
test_u (c ∷ cs) = not (is_gain c) && test_u cs

-- no component is a non-trivial width or class: decides law C
abbrev pub test_c : List Component → Bool
test_c [] = true
test_c (c ∷ cs) = not (lossy c) && test_c cs

-- ---- the witnesses: start from units everywhere

-- 1 for width, the limit for class
abbrev pub worst : Component → ℕ
worst Dist = 0
worst (Width w) = 1
worst (Class c) = c
worst Gain = 0

-- at D's place j, x holds the worse of: worst and unit, 1 and 0 (dist), 0 and 1 (gain)
abbrev pub worse_of_two : Component → ℕ
worse_of_two Dist = 1
worse_of_two (Width w) = worst (Width w)
worse_of_two (Class c) = worst (Class c)
worse_of_two Gain = 0

-- .. and y the better
abbrev pub better_of_two : Component → ℕ
better_of_two Dist = 0
better_of_two (Width w) = unit_value (Width w)
better_of_two (Class c) = unit_value (Class c)
better_of_two Gain = 1

-- units, but f at the first component that passes the test, if there is one
abbrev pub at_first : (Component → Bool) → (Component → ℕ) → List Component → List ℕ
at_first p f [] = []
at_first p f (c ∷ cs) = cond (p c) (f c ∷ unit_values cs) (unit_value c ∷ at_first p f cs)

-- D's s: worst at the first non-trivial width or class i that has a later non-trivial component
abbrev pub s_d : List Component → List ℕ
s_d [] = []
s_d (c ∷ cs) = cond (lossy_before c cs) (worst c ∷ unit_values cs) (unit_value c ∷ s_d cs)

-- D's x: the worse of two at j, the first non-trivial component after i
abbrev pub x_d : List Component → List ℕ
x_d [] = []
x_d (c ∷ cs) = cond (lossy_before c cs) (unit_value c ∷ at_first non_trivial worse_of_two cs) (unit_value c ∷ x_d cs)

-- D's y: worst at i, the better of two at j
abbrev pub y_d : List Component → List ℕ
y_d [] = []
y_d (c ∷ cs) = cond (lossy_before c cs) (worst c ∷ at_first non_trivial better_of_two cs) (unit_value c ∷ y_d cs)

-- U's x: 1 at the first gain
abbrev pub x_u : List Component → List ℕ
x_u cs = at_first is_gain (λ c. 1) cs

-- C's s and y: worst at the first non-trivial width or class; x is the unit
abbrev pub s_c : List Component → List ℕ
s_c cs = at_first lossy worst cs

-- ---- weights that break a law

-- s, x and y are weights of the language for which law D's equation fails
abbrev pub BreaksD : List Component → Weight → Weight → Weight → Type 0
BreaksD cs s x y = Valid cs s × Valid cs x × Valid cs y × (join cs s (better_of cs x y) ≡ better_of cs (join cs s x) (join cs s y) → ⊥)

-- x is a weight of the language that is better than the unit
abbrev pub BreaksU : List Component → Weight → Type 0
BreaksU cs x = Valid cs x × (better cs x (unit cs) ≡ true)

-- s joined x equals s joined y and is a route, and yet x and y differ; all are weights of the language
abbrev pub BreaksC : List Component → Weight → Weight → Weight → Type 0
BreaksC cs s x y = Valid cs s × Valid cs x × Valid cs y × (join cs s x ≡ join cs s y) × IsRoute (join cs s x) × (x ≡ y → ⊥)
