use Prim.Native.Nat.{◌*◌}
use mathlib.Core.List.{◌++◌}
use mathlib.Core.Path.{ap, ◌∙◌}
use native.Mathlib.Omega.{arith}
use lib.ListN.{take, drop}
use Rattle.weights.specs.Sizes.{entry_words}
use Rattle.matrices.proofs.Blocks.{filled_none, filled_put}
use Rattle.tables.specs.Tables.{words_of}
use Rattle.tables.proofs.TableBlocks.{length_entry, write_is}
use Rattle.sums.proofs.forward_row.Invariants.{block}
use Rattle.sums.proofs.forward_row.Goals as goal

pub loop-d-init : goal.loop-d-init
loop-d-init c = filled_none _ _ _

pub loop-d-preserved : goal.loop-d-preserved
loop-d-preserved c = let a = c.args in let at = c.loop-d.d * entry_words in
    filled_put entry_words (block a.p a.mode a.n a.m a.r.now a.s.now a.node.0) (λ t. length_entry _) _ c.loop-d.d c.loop-d.row _ c.loop-d.invariant (omega arith)
    (c.write_at.ensures ∙ write_is c.loop-d.row at _ (omega arith)
    ∙ ap (λ e. take at c.loop-d.row ++ (words_of e ++ drop entry_words (drop at c.loop-d.row))) c.forward_entry-e.ensures)
