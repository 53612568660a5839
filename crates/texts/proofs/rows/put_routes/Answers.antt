use Prim.Native.Nat.{◌*◌}
use Rattle.texts.proofs.Growing.{grown_none, grown_more}
use Rattle.texts.proofs.rows.put_routes.Invariants.{row}
use Rattle.texts.proofs.rows.put_routes.Goals as goal

pub loop-i-init : goal.loop-i-init
loop-i-init c = grown_none (c.args.n * 68) (row c.args.count c.args.n c.args.r.now) c.args.out.now c.args.at

pub loop-i-preserved : goal.loop-i-preserved
loop-i-preserved c = grown_more (c.args.n * 68) (row c.args.count c.args.n c.args.r.now) c.args.out.now c.args.at c.loop-i.i c.loop-i.invariant c.put_route_row-end.ensures
