use mathlib.Core.Path.{◌∙◌}
use Rattle.weights.specs.Sizes.{places}
use Rattle.matrices.specs.Buffers.{matrix_in}
use Rattle.matrices.proofs.Sums.{arcs_of_lem}
use Rattle.columns.proofs.Passes.{settled_is}
use Rattle.columns.proofs.settling.settle.Goals as goal

pub returns : goal.returns
returns c = let g = arcs_of_lem c.args.p c.args.n c.args.a.now c.args.r.now c.requires.0 in
    c.write_column.ensures
    ∙ settled_is c.args.p c.args.n c.args.a.now g c.args.node.0 (matrix_in places c.args.n c.args.r.now) _ _ c.settle_column.ensures
