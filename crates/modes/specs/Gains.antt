-- An entry's weight, and entries that win before a join is made. To be believed: `weight_in`, by which `forward_sums`
-- (forwarded/proofs/Forwards) speaks of an entry. The rest joins the code to Entries.
use Rattle.std.specs.Prelude.{Bool, false, List, ltb}
use Rattle.weights.specs.declared.Component.{Component}
use Rattle.weights.specs.Weights.{Weight, none, route}
use Rattle.weights.specs.Gains.{loses}
use Rattle.modes.specs.declared.Mode.{Mode}
use Rattle.modes.specs.declared.Mode.TheVariants.{Plain, Hot, Cold}
use Rattle.modes.specs.Entries.{Entry, empty, mapped}

-- an entry's weight; empty has none
abbrev pub weight_in : Entry → Weight
weight_in empty = none
weight_in (mapped xs t) = route xs

-- both are mapped, the first with the smaller t
abbrev pub sooner : Entry → Entry → Bool
sooner empty f = false
sooner (mapped xs t) empty = false
sooner (mapped xs t) (mapped ys u) = ltb t u

-- e stays beside x applied to f, as the first values tell, or in cold mode the numbers t
abbrev pub loses_entry : Mode → List Component → Entry → Weight → Entry → Bool
loses_entry Plain cs e x f = loses cs (weight_in e) x (weight_in f)
loses_entry Hot cs e x f = loses cs (weight_in e) x (weight_in f)
loses_entry Cold cs e x f = sooner e f
