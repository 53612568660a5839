use Prim.Native.Nat.{◌-◌}
use mathlib.Core.Path.{◌≡◌}
use native.Mathlib.Omega.{arith}
use Rattle.printing.proofs.Sweeping.{sweeps_none, sweeps_more}
use Rattle.printing.proofs.work.put_sweeps.Goals as goal

pub loop-t-init : goal.loop-t-init
loop-t-init c = (omega arith, sweeps_none c.args.n c.args.list.now)

pub loop-t-preserved : goal.loop-t-preserved
loop-t-preserved c = (omega arith, sweeps_more c.args.n c.loop-t.t c.args.list.now c.loop-t.invariant.1 c.put_sweep.ensures)

pub returns : goal.returns
returns c = let e : c.loop-t.t ≡ c.args.n - 1 = omega arith in
    rw (← e) c.loop-t.invariant.1
