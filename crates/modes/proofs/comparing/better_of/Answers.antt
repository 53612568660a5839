use mathlib.Core.Path.{sym, ◌∙◌}
use Rattle.modes.proofs.Picking.{pick_first, pick_second}
use Rattle.modes.proofs.comparing.better_of.Goals as goal

pub returns-then-better : goal.returns-then-better
returns-then-better c = sym (pick_second _ _ _ (sym c.better.ensures ∙ c.if-better.true))

pub returns-else-better : goal.returns-else-better
returns-else-better c = sym (pick_first _ _ _ (sym c.better.ensures ∙ c.if-better.false))
