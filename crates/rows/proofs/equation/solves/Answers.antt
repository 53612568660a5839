use borrow.Author.Rules.{rules}
use Rattle.weights.specs.Sizes.{places}
use Rattle.weights.specs.Languages.{places_of}
use Rattle.matrices.specs.Buffers.{matrix_in}
use Rattle.matrices.specs.Steps.{row_solves}
use Rattle.matrices.proofs.Every.{all_every}
use Rattle.rows.proofs.equation.solves.Goals as goal

pub returns : goal.returns
returns c =
    all_every (row_solves (places_of c.args.p) c.args.n (matrix_in places c.args.n c.args.a.now) (matrix_in places c.args.n c.args.r.now)) c.args.n _ _ _ c.all.ensures.ran
    (λ x b q k. search rules)
