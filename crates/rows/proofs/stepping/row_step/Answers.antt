use mathlib.Core.Path.{sym, ◌∙◌}
use Rattle.weights.specs.Sizes.{places}
use Rattle.weights.specs.Languages.{places_of}
use Rattle.matrices.specs.Buffers.{matrix_in}
use Rattle.matrices.proofs.Rounds.{made_fits, done_is, over_is}
use Rattle.rows.proofs.stepping.row_step.Goals as goal

pub returns-then-row_low : goal.returns-then-row_low
returns-then-row_low c = let fit = made_fits c.args.p c.args.n c.args.a.now c.args.r.now c.requires.0 c.args.node.0 c.requires.1 _ _ c.new_row.ensures in
    let e = sym fit ∙ sym c.row_low.ensures ∙ c.if-row_low.true in
    record { value = sym e; r_after = done_is (places_of c.args.p) c.args.n (matrix_in places c.args.n c.args.a.now) c.args.r.now c.args.node.0 c.requires.0.routes.square c.requires.1 _ _ _ c.new_row.ensures c.write_row.ensures e }

pub returns : goal.returns
returns c = let fit = made_fits c.args.p c.args.n c.args.a.now c.args.r.now c.requires.0 c.args.node.0 c.requires.1 _ _ c.new_row.ensures in
    let e = sym fit ∙ sym c.row_low.ensures ∙ c.if-row_low.false in
    record { value = sym e; r_after = over_is (places_of c.args.p) c.args.n (matrix_in places c.args.n c.args.a.now) c.args.r.now c.args.node.0 c.requires.0.routes.square e }
