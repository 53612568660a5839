use Rattle.tables.proofs.EntryReadings.{look_empty, look_mapped}
use Rattle.tables.proofs.entries.look_up.Goals as goal

pub returns-then-all_ones : goal.returns-then-all_ones
returns-then-all_ones c = let q = c.place-at in look_empty c.args.m c.args.node.0 c.args.destination.0 c.args.s.now q.result c.requires.room q.ensures _ c.all_ones.ensures c.if-all_ones.true

pub returns : goal.returns
returns c = let q = c.place-at in look_mapped c.args.m c.args.node.0 c.args.destination.0 c.args.s.now q.result c.requires.room q.ensures _ c.all_ones.ensures c.if-all_ones.false
