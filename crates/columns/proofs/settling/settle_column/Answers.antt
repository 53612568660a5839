use Prim.Native.Nat.{◌+◌, ◌-◌}
use mathlib.Core.Path.{refl, sym, ◌∙◌}
use native.Mathlib.Omega.{arith}
use Rattle.columns.proofs.Passes.{settling_none, settling_held, settling_more, settling_next, settling_still, settling_all}
use Rattle.columns.proofs.settling.settle_column.Goals as goal

pub loop-init : goal.loop-init
loop-init c = settling_none _ _ _ _ _ _ _ c.fresh_row.ensures refl

pub pass-requires : goal.pass-requires
pass-requires c = (c.requires.0, settling_held c.args.p c.args.n c.args.a.now c.requires.0 c.args.j _ (omega arith) (c.loop.counter - 1) c.loop.entries c.loop.invariant)

-- the pass changed nothing, so the passes that are left would not either
pub returns-then-not-pass : goal.returns-then-not-pass
returns-then-not-pass c = let q = c.pass.ensures in let still = q.entries_unchanged c.if-not-pass.true in
    let k = c.loop.counter - 1 in
    let r = settling_still c.args.p c.args.n c.args.a.now c.requires.0 c.args.j _ (omega arith) k c.loop.entries c.loop.invariant (sym still ∙ q.entries_after) c.args.n in
    still ∙ settling_all c.args.p c.args.n c.args.a.now c.requires.0 c.args.j c.args.entries.now _ (c.args.n + k) c.loop.entries r (omega arith) c.fresh_row.ensures

pub loop-preserved : goal.loop-preserved
loop-preserved c =
    settling_next c.args.p c.args.n c.args.a.now c.args.j _ c.loop.counter _ c.loop.auto.counter
    (settling_more c.args.p c.args.n c.args.a.now c.requires.0 c.args.j _ (omega arith) (c.loop.counter - 1) c.loop.entries _ c.loop.invariant c.pass.ensures.entries_after)

pub returns : goal.returns
returns c = settling_all c.args.p c.args.n c.args.a.now c.requires.0 c.args.j c.args.entries.now _ (c.loop.counter - 1) c.loop.entries c.loop.invariant (omega arith) c.fresh_row.ensures
