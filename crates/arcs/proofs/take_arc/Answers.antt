use mathlib.Core.Path.{sym, ◌∙◌, subst}
use native.Mathlib.Omega.{arith}
use Rattle.weights.specs.Sizes.{places, arc_sum, matrix_sum}
use Rattle.weights.specs.Languages.{places_of}
use Rattle.weights.specs.Values.{AtMost}
use Rattle.matrices.specs.Buffers.{entry_place, matrix_in}
use Rattle.matrices.specs.Parts.{FirstAlone}
use Rattle.matrices.proofs.Blocks.{place_room}
use Rattle.matrices.proofs.Entries.{cell_is}
use Rattle.matrices.proofs.Bounds.{formed_valid, formed_most, ones_none}
use Rattle.matrices.proofs.Alone.{first_alone}
use Rattle.matrices.proofs.Rounds.{fold_none}
use Rattle.arcs.proofs.take_arc.Goals as goal

pub returns-then-a-at : goal.returns-then-a-at
returns-then-a-at c = let most = formed_most arc_sum c.args.p c.args.n c.args.a.now (omega arith) c.requires.0.limits c.requires.0.arcs c.args.i c.args.k c.requires.1 c.requires.2 in
    let e = ones_none c.args.a.now (entry_place c.args.n c.args.i c.args.k) (omega (arith, place_room c.args.n c.args.i c.args.k c.requires.1 c.requires.2, c.requires.0.arcs.square.long)) most c.if-a-at.true in
    rw e (fold_none (places_of c.args.p) c.args.n (matrix_in places c.args.n c.args.r.now c.args.k) c.args.row.now c.requires.3)

pub fold_arc-requires : goal.fold_arc-requires
fold_arc-requires c = let g = c.requires.0 in
    let R = matrix_in places c.args.n c.args.r.now in
    let e = cell_is c.args.a.now (entry_place c.args.n c.args.i c.args.k) ∙ sym c.weight_at-x.ensures in
    record {
      square = (g.routes.square, c.requires.2, c.requires.3, subst (AtMost arc_sum) e (formed_most arc_sum c.args.p c.args.n c.args.a.now (omega arith) g.limits g.arcs c.args.i c.args.k c.requires.1 c.requires.2));
      by_index = λ j hj. formed_most matrix_sum c.args.p c.args.n c.args.r.now (omega arith) g.limits g.routes c.args.k j c.requires.2 hj;
      first_alone = λ t j hj. subst (λ w. FirstAlone (places_of c.args.p) w (R c.args.k j)) e
          (first_alone c.args.p (c.requires.4 t) _ (R c.args.k j)
          (formed_valid arc_sum c.args.p c.args.n c.args.a.now g.arcs c.args.i c.args.k c.requires.1 c.requires.2)
          (formed_valid matrix_sum c.args.p c.args.n c.args.r.now g.routes c.args.k j c.requires.2 hj));
    }
