-- The nine numbers of a language mean that language again; what is told of a refusal is not done; an answer is known by its four numbers.
use Prim.Native.Nat.{ℕ}
use mathlib.Core.Path.{◌≡◌, refl}
use mathlib.Core.Bool.{false}
use mathlib.Core.List.{[], ◌∷◌}
use Rattle.refusals.specs.declared.Refusal.{Refusal}
use Rattle.refusals.specs.declared.Refusal.TheVariants.{Bytes, Version, Size, BadComponent, BadCount, Value, NoSuch, NotAscending, Length, Law, Sum, Equation, TooMany}
use Rattle.refusals.specs.Told.{told}
use Rattle.weights.specs.declared.Component.{Component}
use Rattle.weights.specs.declared.Component.TheVariants.{Dist, Width, Class, Gain}
use Rattle.weights.specs.declared.Language.{Language}
use Rattle.door.specs.declared.Reply.{Reply}
use Rattle.door.specs.Languages.{component_of, language_of, place_numbers, numbers_of}
use Rattle.door.specs.Replies.{is_done}

-- ---- the language

-- the kind and the limit of a component
kind : Component → ℕ
kind Dist = 1
kind (Width limit) = 2
kind (Class limit) = 3
kind Gain = 4

limit_of : Component → ℕ
limit_of Dist = 0
limit_of (Width limit) = limit
limit_of (Class limit) = limit
limit_of Gain = 0

place_is : (c : Component) → place_numbers c ≡ kind c ∷ limit_of c ∷ []
unfolding kind limit_of
place_is Dist = refl
place_is (Width limit) = refl
place_is (Class limit) = refl
place_is Gain = refl

component_back : (c : Component) → component_of (kind c) (limit_of c) ≡ c
unfolding kind limit_of
component_back Dist = refl
component_back (Width limit) = refl
component_back (Class limit) = refl
component_back Gain = refl

pub language_back : (l : Language) → language_of (numbers_of l) ≡ l
unfolding language_of
language_back l =
    rw (place_is l.first, place_is l.second, place_is l.third, place_is l.fourth)
    (rw (component_back l.first, component_back l.second, component_back l.third, component_back l.fourth))

-- ---- the answer

pub refusal_not_done : (r : Refusal) → is_done (told r) ≡ false
refusal_not_done (Bytes which place) = refl
refusal_not_done (Version which place) = refl
refusal_not_done (Size which place) = refl
refusal_not_done (BadComponent which place) = refl
refusal_not_done (BadCount which place) = refl
refusal_not_done (Value which place) = refl
refusal_not_done (NoSuch which place) = refl
refusal_not_done (NotAscending which place) = refl
refusal_not_done (Length which place) = refl
refusal_not_done (Law which place) = refl
refusal_not_done (Sum which place) = refl
refusal_not_done (Equation which place) = refl
refusal_not_done (TooMany which place) = refl

-- two answers with the same four numbers are equal
pub reply_one : (x y : Reply) → x.number ≡ y.number → x.which ≡ y.which → x.place ≡ y.place → x.value ≡ y.value → x ≡ y
reply_one x y a b c d = λ i. record { number = a i; which = b i; place = c i; value = d i }
