use borrow.Author.Rules.{rules}
use Rattle.matrices.specs.Buffers.{cell}
use Rattle.matrices.specs.Parts.{low_at}
use Rattle.matrices.proofs.Every.{all_every}
use Rattle.rows.proofs.stepping.row_low.Goals as goal

pub returns : goal.returns
unfolding cell
returns c = all_every (low_at c.args.row.now) c.args.n _ _ _ c.all.ensures.ran (λ x b q k. search rules)
