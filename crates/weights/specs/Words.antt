-- A weight in a buffer: its words, and what words stand for (01, "Weights").
-- To be believed: all but `read_of`, which joins the code to the rest.
use Rattle.std.specs.Prelude.{ℕ, zero, suc, Bool, true, false, cond, ◌&&◌, List, [], ◌∷◌, leb, eqb, length, take, replicate, Option, Some, None}
use Rattle.weights.specs.declared.Component.{Component}
use Rattle.weights.specs.declared.Component.TheVariants.{Dist, Width, Class, Gain}
use Rattle.weights.specs.Sizes.{weight_words, ones}
use Rattle.weights.specs.Weights.{Weight, none, route}
use Rattle.weights.specs.Values.{weight_of}
use Rattle.weights.specs.declared.Weight as declared

-- the values, and 0 in each word after them, n words in all
abbrev pub filled : ℕ → List ℕ → List ℕ
filled zero xs = []
filled (suc n) [] = 0 ∷ filled n []
filled (suc n) (x ∷ xs) = x ∷ filled n xs

-- The words of a weight.
unfoldable pub words : Weight → List ℕ
words none = replicate weight_words ones
words (route xs) = filled weight_words xs

-- every word is w
abbrev pub all_are : ℕ → List ℕ → Bool
all_are w [] = true
all_are w (x ∷ xs) = eqb x w && all_are w xs

-- v is a value of the component, a sum being at most cap
abbrev pub in_range : ℕ → Component → ℕ → Bool
in_range cap Dist v = leb v cap
in_range cap (Width w) v = leb 1 v && leb v w
in_range cap (Class c) v = leb v c
in_range cap Gain v = leb v cap

-- the words are values of the components, and 0 after them
abbrev pub fits : ℕ → List Component → List ℕ → Bool
fits cap [] ws = all_are 0 ws
fits cap (c ∷ cs) [] = false
fits cap (c ∷ cs) (x ∷ xs) = in_range cap c x && fits cap cs xs

-- What words stand for.
pub data Reading : Type 0 where
  good : Weight → Reading
  malformed : Reading

-- no route is ones in every word; a route has a value of each component, and 0 after them; other patterns are malformed
abbrev pub reading : ℕ → List Component → List ℕ → Reading
reading cap cs ws = cond (all_are ones ws) (good none) (cond (fits cap cs ws) (good (route (take (length cs) ws))) malformed)

-- the words are not malformed: a test
abbrev pub is_good : Reading → Bool
is_good (good w) = true
is_good malformed = false

-- what the code's answer of reading says
abbrev pub read_of : Option declared.Weight → Reading
read_of (Some w) = good (weight_of w)
read_of None = malformed

-- the weight, of k values, that words stand for where they are not malformed
abbrev pub decoded : ℕ → List ℕ → Weight
decoded k ws = cond (all_are ones ws) none (route (take k ws))
