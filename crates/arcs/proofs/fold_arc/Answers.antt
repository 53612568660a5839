use Prim.Native.Nat.{◌*◌}
use mathlib.Core.Path.{sym, ◌∙◌}
use native.Mathlib.Omega.{arith}
use Rattle.weights.specs.Sizes.{weight_words}
use Rattle.weights.specs.Languages.{places_of}
use Rattle.weights.specs.Values.{weight_of}
use Rattle.matrices.specs.Buffers.{entry_place}
use Rattle.matrices.proofs.Blocks.{filled_none, filled_put, filled_rest}
use Rattle.matrices.proofs.Entries.{length_words, cell_is, cell_drop, fold_one}
use Rattle.arcs.proofs.fold_arc.Invariants.{block}
use Rattle.arcs.proofs.fold_arc.Goals as goal

pub loop-j-init : goal.loop-j-init
loop-j-init c = filled_none _ _ _

pub loop-j-preserved : goal.loop-j-preserved
loop-j-preserved c = let u = c.loop-j.row in let q = c.loop-j.j * weight_words in
    let b = block c.args.p c.args.x c.args.r.now c.args.n c.args.k c.args.row.now in
    filled_put weight_words b (λ t. length_words _) _ c.loop-j.j u _ c.loop-j.invariant (omega arith)
    (c.relax_at.ensures
    ∙ fold_one (places_of c.args.p) (weight_of c.args.x) _ _ u c.args.row.now q
    (cell_drop u c.args.row.now q (filled_rest weight_words b (λ t. length_words _) _ c.loop-j.j u c.loop-j.invariant))
    (c.weight_at-y.ensures ∙ sym (cell_is c.args.r.now (entry_place c.args.n c.args.k c.loop-j.j))))
