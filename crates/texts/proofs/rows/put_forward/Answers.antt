use mathlib.Core.Path.{ap}
use native.Mathlib.Omega.{arith}
use Rattle.decimals.proofs.Putting.{put_as}
use Rattle.texts.specs.Lines.{entry_line}
use Rattle.texts.proofs.Growing.{first_table}
use Rattle.texts.proofs.rows.put_forward.Goals as goal

pub returns : goal.returns
returns c = let e = first_table c.args.count c.args.m c.args.i c.args.d c.args.f.now _ c.requires.3 c.look_up-e.ensures in
    put_as c.put_entry_line.ensures (ap (entry_line c.args.mode c.args.i c.args.d) e) (omega arith)
