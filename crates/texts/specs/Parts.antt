-- What the inner functions say on the way to Lines: weights and entries of four places, of which the language has the first.
-- They join the code to Lines; nothing here has to be believed.
use Rattle.std.specs.Prelude.{ℕ, take}
use Rattle.weights.specs.Weights.{Weight, none, route}
use Rattle.modes.specs.Entries.{Entry, empty, mapped}

-- the first k values of a weight
abbrev pub first_values : ℕ → Weight → Weight
first_values k none = none
first_values k (route xs) = route (take k xs)

-- the first k values of an entry
abbrev pub first_of_entry : ℕ → Entry → Entry
first_of_entry k empty = empty
first_of_entry k (mapped xs t) = mapped (take k xs) t
