use mathlib.Core.List.{[]}
use Rattle.std.proofs.Common.{arith, length, ◌≡◌, ◌∙◌}
use Rattle.routes.proofs.Lists.{running_none, running_more, running_stop, running_all, steps_here}
use Rattle.steps.proofs.run.Goals as goal

pub loop-done-init : goal.loop-done-init
loop-done-init c = (omega arith, running_none c.args.p c.args.n c.args.a.now c.args.r.now c.args.list.now c.requires.0 c.requires.1)

pub one_step-requires : goal.one_step-requires
one_step-requires c = (c.loop-done.invariant.1.well, steps_here c.args.n c.args.list.now c.loop-done.done c.loop-done-test.true c.loop-done.invariant.1.steps)

pub returns-then-not-one_step : goal.returns-then-not-one_step
returns-then-not-one_step c = let whole = running_stop c.args.p c.args.n c.args.a.now c.args.r.now c.args.list.now c.loop-done.done c.loop-done.r _ c.loop-done.invariant.1 c.loop-done-test.true c.one_step.ensures.r_after c.one_step.ensures.value c.if-not-one_step.true in record { value = whole.0; r_after = whole.1 }

pub loop-done-preserved : goal.loop-done-preserved
loop-done-preserved c = (omega arith, running_more c.args.p c.args.n c.args.a.now c.args.r.now c.args.list.now c.loop-done.done c.loop-done.r _ c.loop-done.invariant.1 c.loop-done-test.true c.one_step.ensures.r_after c.one_step.ensures.value c.if-not-one_step.false)

pub returns : goal.returns
returns c = let e : length c.args.list.now ≡ c.loop-done.done = omega arith in
    let whole = running_all c.args.p c.args.n c.args.a.now c.args.r.now c.args.list.now c.loop-done.done c.loop-done.r [] c.loop-done.invariant.1 (omega arith) in record { value = e ∙ whole.0; r_after = whole.1 }
