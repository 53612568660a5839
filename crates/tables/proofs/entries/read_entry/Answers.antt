use Rattle.std.proofs.Common.{rules, sym, ◌∙◌}
use Rattle.tables.specs.Tables.{table_place}
use Rattle.tables.proofs.EntryReadings.{entry_well, entry_ill}
use Rattle.tables.proofs.entries.read_entry.Goals as goal

pub returns : goal.returns
returns c = let a = c.args in c.read_with.ensures
    ∙ sym (entry_well a.mode a.cap a.p a.s.now (table_place a.m a.node.0 a.destination.0) c.place-at.result c.requires.room c.place-at.ensures c.read_at.result c.read_at.ensures _ c.in_ok-w.was)

pub returns-in_err-w : goal.returns-in_err-w
returns-in_err-w c = let a = c.args in
    let e = entry_ill a.mode a.cap a.p a.s.now (table_place a.m a.node.0 a.destination.0) c.place-at.result c.requires.room c.place-at.ensures c.read_at.result c.read_at.ensures c.in_err-w.was in
    search rules
