use Rattle.texts.proofs.Growing.{grown_none, grown_more}
use Rattle.texts.proofs.rows.put_forward_row.Invariants.{line}
use Rattle.texts.proofs.rows.put_forward_row.Goals as goal

pub loop-d-init : goal.loop-d-init
loop-d-init c = grown_none 79 (line c.args.count c.args.mode c.args.m c.args.i c.args.f.now) c.args.out.now c.args.at

pub loop-d-preserved : goal.loop-d-preserved
loop-d-preserved c = grown_more 79 (line c.args.count c.args.mode c.args.m c.args.i c.args.f.now) c.args.out.now c.args.at c.loop-d.d c.loop-d.invariant c.put_forward-end.ensures
