-- What the code holds for each place, as a list.
use Rattle.std.specs.Prelude.{List, [], ◌∷◌}
use Rattle.weights.specs.declared.PerPlace.{PerPlace}

-- the four things, in the order of the places
abbrev pub list_of : {T : Type 0} → PerPlace T → List T
list_of p = p.first ∷ p.second ∷ p.third ∷ p.fourth ∷ []
