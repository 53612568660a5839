use mathlib.Core.Path.{refl}
use native.Mathlib.Omega.{arith}
use Rattle.matrices.proofs.Rounds.{taken_none, taken_more}
use Rattle.rows.proofs.stepping.new_row.Goals as goal

pub loop-k-init : goal.loop-k-init
loop-k-init c = taken_none _ _ _ _ _ _ _ _ c.fresh_row.ensures refl

pub loop-k-preserved : goal.loop-k-preserved
loop-k-preserved c = taken_more c.args.p c.args.n c.args.a.now c.args.r.now c.requires.0 c.args.i c.loop-k.k c.requires.1 c.loop-k-test.true _ c.loop-k.row _ c.loop-k.invariant (omega arith) c.take_arc.ensures
