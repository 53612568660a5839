use mathlib.Core.Path.{sym, ◌∙◌, subst}
use native.Mathlib.Omega.{arith}
use Rattle.weights.specs.Sizes.{places, arc_sum}
use Rattle.weights.specs.Languages.{places_of}
use Rattle.weights.specs.Values.{AtMost}
use Rattle.matrices.specs.Buffers.{entry_place, row_in, matrix_in}
use Rattle.columns.specs.Columns.{via}
use Rattle.matrices.proofs.Entries.{cell_is}
use Rattle.matrices.proofs.Bounds.{formed_most}
use Rattle.columns.proofs.Passes.{renewed_none, renewed_more}
use Rattle.columns.proofs.settling.renew.Goals as goal

pub loop-k-init : goal.loop-k-init
loop-k-init c = c.fresh_weight-w.ensures ∙ renewed_none (places_of c.args.p) (via (places_of c.args.p) (matrix_in places c.args.n c.args.a.now) (row_in places c.args.entries.now) c.args.i) _

pub take_entry-w-requires : goal.take_entry-w-requires
take_entry-w-requires c = let hk = c.loop-k-test.true in (
  omega (arith, c.requires.1.room),
  subst (AtMost arc_sum) (cell_is c.args.a.now (entry_place c.args.n c.args.i c.loop-k.k) ∙ sym c.weight_at-x.ensures)
      (formed_most arc_sum c.args.p c.args.n c.args.a.now (omega arith) c.requires.0.limits c.requires.0.arcs c.args.i c.loop-k.k c.requires.2 hk),
  c.requires.1.small c.loop-k.k hk,
)

pub loop-k-preserved : goal.loop-k-preserved
loop-k-preserved c =
    renewed_more (places_of c.args.p) (matrix_in places c.args.n c.args.a.now) (row_in places c.args.entries.now) c.args.i _ c.loop-k.k _ _ _ c.take_entry-w.ensures
    (c.weight_at-x.ensures ∙ sym (cell_is c.args.a.now (entry_place c.args.n c.args.i c.loop-k.k))) c.loop-k.invariant
