use mathlib.Core.Path.{◌∙◌}
use Rattle.matrices.proofs.Rounds.{made_solves}
use Rattle.rows.proofs.equation.row_solves.Goals as goal

pub returns : goal.returns
returns c = c.row_same.ensures ∙ made_solves c.args.p c.args.n c.args.a.now c.args.r.now c.requires.0 c.args.i c.requires.1 _ _ c.new_row.ensures
