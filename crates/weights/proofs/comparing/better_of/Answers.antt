use mathlib.Core.Path.{sym, ◌∙◌}
use Rattle.weights.specs.Languages.{places_of}
use Rattle.weights.specs.Values.{weight_of}
use Rattle.weights.proofs.Ordering.{better_of_first, better_of_second}
use Rattle.weights.proofs.comparing.better_of.Goals as goal

pub returns-then-better : goal.returns-then-better
returns-then-better c = sym (better_of_second (places_of c.args.p) (weight_of c.args.x) (weight_of c.args.y) (sym c.better.ensures ∙ c.if-better.true))

pub returns-else-better : goal.returns-else-better
returns-else-better c = sym (better_of_first (places_of c.args.p) (weight_of c.args.x) (weight_of c.args.y) (sym c.better.ensures ∙ c.if-better.false))
