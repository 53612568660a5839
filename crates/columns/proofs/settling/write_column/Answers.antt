use Prim.Native.Nat.{◌*◌}
use mathlib.Core.Path.{sym, ◌∙◌}
use native.Mathlib.Omega.{arith}
use Rattle.weights.specs.Sizes.{places, weight_words}
use Rattle.weights.specs.Values.{weight_of}
use Rattle.matrices.specs.Buffers.{entry_place, row_in, matrix_in}
use Rattle.matrices.proofs.Blocks.{place_room}
use Rattle.matrices.proofs.Entries.{cell_is, write_is, matrix_self}
use Rattle.columns.proofs.Written.{column_none, column_more, column_all}
use Rattle.columns.proofs.settling.write_column.Goals as goal

pub loop-i-init : goal.loop-i-init
loop-i-init c = sym (matrix_self c.args.n c.args.r.now c.requires.0) ∙ column_none c.args.n c.args.j (row_in places c.args.entries.now) _

pub loop-i-preserved : goal.loop-i-preserved
loop-i-preserved c =
    column_more c.args.n c.args.j (row_in places c.args.entries.now) (matrix_in places c.args.n c.args.r.now) c.loop-i.i c.loop-i.r _ (weight_of c.weight_at-w.result) c.loop-i-test.true c.requires.1 c.loop-i.invariant
    (c.weight_at-w.ensures ∙ sym (cell_is c.args.entries.now (c.loop-i.i * weight_words)))
    (c.write_at.ensures ∙ write_is c.loop-i.r (entry_place c.args.n c.loop-i.i c.args.j) _ (omega (arith, place_room c.args.n c.loop-i.i c.args.j c.loop-i-test.true c.requires.1, c.requires.0.long)))

pub returns : goal.returns
returns c = c.loop-i.invariant ∙ column_all c.args.n c.args.j (row_in places c.args.entries.now) (matrix_in places c.args.n c.args.r.now) c.loop-i.i (omega arith)
