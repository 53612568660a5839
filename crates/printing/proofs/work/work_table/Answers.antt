use Rattle.printing.proofs.Whole.{table_tried}
use Rattle.printing.proofs.work.work_table.Goals as goal

pub returns : goal.returns
returns c = let forward = c.forward.ensures in
    let whole = table_tried c.args.tables.now c.args.f.now _ _ _ forward.answer forward.f_after c.from.ensures in record { value = whole.0; f_after = whole.1 }
