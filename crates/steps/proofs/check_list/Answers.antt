use mathlib.Core.Path.{sym, ◌∙◌}
use native.Mathlib.Omega.{arith}
use Rattle.routes.proofs.Lists.{too_many, list_start, list_bad, list_more, list_end_lem}
use Rattle.steps.proofs.check_list.Goals as goal

pub returns-then-list-gt-MOST_STEPS : goal.returns-then-list-gt-MOST_STEPS
returns-then-list-gt-MOST_STEPS c = too_many c.args.n c.args.list.now c.if-list-gt-MOST_STEPS.true

pub loop-k-init : goal.loop-k-init
loop-k-init c = (omega arith, list_start c.args.n c.args.list.now c.if-list-gt-MOST_STEPS.false)

pub returns-then-not-is_step : goal.returns-then-not-is_step
returns-then-not-is_step c = let args = c.args in sym (c.loop-k.invariant.1 ∙ list_bad args.n args.list.now c.loop-k.k c.loop-k-test.true (sym c.is_step.ensures ∙ c.if-not-is_step.true))

pub loop-k-preserved : goal.loop-k-preserved
loop-k-preserved c = let args = c.args in (omega arith, c.loop-k.invariant.1 ∙ list_more args.n args.list.now c.loop-k.k c.loop-k-test.true (sym c.is_step.ensures ∙ c.if-not-is_step.false))

pub returns : goal.returns
returns c = let args = c.args in sym (c.loop-k.invariant.1 ∙ list_end_lem args.n args.list.now c.loop-k.k (omega arith))
