use mathlib.Core.Path.{sym, ◌∙◌}
use Rattle.weights.specs.Sizes.{places}
use Rattle.weights.specs.Languages.{places_of}
use Rattle.weights.specs.Values.{weight_of}
use Rattle.tables.specs.Tables.{table_in}
use Rattle.modes.specs.Entries.{entry_of}
use Rattle.tables.proofs.Summing.{left_out}
use Rattle.modes.proofs.Gains.{loses_keeps}
use Rattle.sums.proofs.take_node.Goals as goal

pub returns-in_default : goal.returns-in_default
returns-in_default c = let a = c.args in rw c.in_default.is (left_out a.mode (places_of a.p) (entry_of a.e) (table_in places a.m a.s.now a.k.0 a.d.0))

pub returns-then-loses : goal.returns-then-loses
returns-then-loses c = let a = c.args in rw (sym c.look_up-y.ensures) (loses_keeps a.mode (places_of a.p) (entry_of a.e) (weight_of a.x) _ (sym c.loses.ensures ∙ c.if-loses.true))
