use native.Mathlib.Omega.{arith}
use Rattle.printing.proofs.Sweeping.{sweep_none, sweep_more}
use Rattle.printing.proofs.work.put_sweep.Goals as goal

pub loop-i-init : goal.loop-i-init
loop-i-init c = (omega arith, sweep_none c.args.list.now c.args.at)

pub loop-i-preserved : goal.loop-i-preserved
loop-i-preserved c = (omega arith, sweep_more c.args.list.now c.args.at c.loop-i.i c.loop-i.list c.loop-i.invariant.1)
