-- What the reader finds before the two lists, in twelve words: n, m, mode, and the nine numbers of the language.
-- To be believed: all of it.
use Rattle.std.specs.Prelude.{ℕ, List, ◌∷◌}
use Rattle.weights.specs.declared.Language.{Language}
use Rattle.door.specs.Languages.{numbers_of}

-- the words of a problem
abbrev pub problem_words : ℕ
problem_words = 12

-- n, m, mode, and the language
abbrev pub problem_of : ℕ → ℕ → ℕ → Language → List ℕ
problem_of n m mode l = n ∷ m ∷ mode ∷ numbers_of l
