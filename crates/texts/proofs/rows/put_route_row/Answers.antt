use Rattle.texts.proofs.Growing.{grown_none, grown_more}
use Rattle.texts.proofs.rows.put_route_row.Invariants.{line}
use Rattle.texts.proofs.rows.put_route_row.Goals as goal

pub loop-j-init : goal.loop-j-init
loop-j-init c = grown_none 68 (line c.args.count c.args.n c.args.i c.args.r.now) c.args.out.now c.args.at

pub loop-j-preserved : goal.loop-j-preserved
loop-j-preserved c = grown_more 68 (line c.args.count c.args.n c.args.i c.args.r.now) c.args.out.now c.args.at c.loop-j.j c.loop-j.invariant c.put_route-end.ensures
