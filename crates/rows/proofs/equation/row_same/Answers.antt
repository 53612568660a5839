use borrow.Author.Rules.{rules}
use Rattle.weights.specs.Sizes.{places}
use Rattle.matrices.specs.Buffers.{cell, row_in, matrix_in}
use Rattle.matrices.specs.Parts.{same_at}
use Rattle.matrices.proofs.Every.{all_every}
use Rattle.rows.proofs.equation.row_same.Goals as goal

pub returns : goal.returns
unfolding cell
returns c = all_every (same_at (row_in places c.args.row.now) (matrix_in places c.args.n c.args.r.now c.args.i)) c.args.n _ _ _ c.all.ensures.ran (λ x b q k. search rules)
