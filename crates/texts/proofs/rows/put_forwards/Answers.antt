use Prim.Native.Nat.{◌*◌}
use Rattle.texts.proofs.Growing.{grown_none, grown_more}
use Rattle.texts.proofs.rows.put_forwards.Invariants.{row}
use Rattle.texts.proofs.rows.put_forwards.Goals as goal

pub loop-i-init : goal.loop-i-init
loop-i-init c = grown_none (c.args.m * 79) (row c.args.count c.args.mode c.args.m c.args.f.now) c.args.out.now c.args.at

pub loop-i-preserved : goal.loop-i-preserved
loop-i-preserved c = grown_more (c.args.m * 79) (row c.args.count c.args.mode c.args.m c.args.f.now) c.args.out.now c.args.at c.loop-i.i c.loop-i.invariant c.put_forward_row-end.ensures
