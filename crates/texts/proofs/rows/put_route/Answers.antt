use mathlib.Core.Path.{ap}
use native.Mathlib.Omega.{arith}
use Rattle.decimals.proofs.Putting.{put_as}
use Rattle.texts.specs.Lines.{route_line}
use Rattle.texts.proofs.Growing.{first_cell}
use Rattle.texts.proofs.rows.put_route.Goals as goal

pub returns : goal.returns
returns c = let e = first_cell c.args.count _ c.args.r.now _ c.requires.3 c.weight_at-w.ensures in
    put_as c.put_route_line.ensures (ap (route_line c.args.i c.args.j) e) (omega arith)
