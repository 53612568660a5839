-- Words that stand at the start of others.
-- To be believed: all of it.
use Rattle.std.specs.Prelude.{ℕ, List, ◌≡◌, length, take}

-- xs begin with ys
abbrev pub StartOf : List ℕ → List ℕ → Type 0
StartOf xs ys = take (length ys) xs ≡ ys
