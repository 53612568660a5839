-- The weights that words are read back as: those of the language, with bounded sums, that are not mistaken for no route.
-- To be believed: all of it. That exactly their words are taken for them is `reads_words` and `words_reads` (proofs/Readings).
use Rattle.std.specs.Prelude.{ℕ, ◌≤◌, ◌<◌, List, [], ◌∷◌}
use Rattle.weights.specs.declared.Component.{Component}
use Rattle.weights.specs.declared.Component.TheVariants.{Dist, Width, Class, Gain}
use Rattle.weights.specs.Sizes.{ones}
use Rattle.weights.specs.Weights.{Weight, none, route, Valid}

-- the values of sums are at most cap
abbrev pub SumsUpTo : ℕ → List Component → List ℕ → Type 0
SumsUpTo cap [] xs = Unit {0}
SumsUpTo cap (c ∷ cs) [] = Unit {0}
SumsUpTo cap (Dist ∷ cs) (x ∷ xs) = (x ≤ cap) × SumsUpTo cap cs xs
SumsUpTo cap (Width w ∷ cs) (x ∷ xs) = SumsUpTo cap cs xs
SumsUpTo cap (Class k ∷ cs) (x ∷ xs) = SumsUpTo cap cs xs
SumsUpTo cap (Gain ∷ cs) (x ∷ xs) = (x ≤ cap) × SumsUpTo cap cs xs

-- the sums of a weight are at most cap
abbrev pub WeightUpTo : ℕ → List Component → Weight → Type 0
WeightUpTo cap cs none = Unit {0}
WeightUpTo cap cs (route xs) = SumsUpTo cap cs xs

-- the first value, if there is one, is not the word of no route
abbrev pub NotOnes : Weight → Type 0
NotOnes none = Unit {0}
NotOnes (route []) = Unit {0}
NotOnes (route (x ∷ xs)) = x < ones

-- w is a weight of the language with sums at most cap, and its first value is not the word of no route
pub record Written (cap : ℕ) (cs : List Component) (w : Weight) : Type 0 where
  pub valid : Valid cs w
  pub sums : WeightUpTo cap cs w
  pub apart : NotOnes w
