use Prim.Native.Nat.{◌*◌}
use native.Mathlib.Omega.{arith}
use Rattle.weights.specs.Sizes.{entry_words}
use Rattle.matrices.proofs.Blocks.{filled_none, filled_lent}
use Rattle.tables.proofs.TableBlocks.{length_row}
use Rattle.tables.proofs.Rooms.{row_within}
use Rattle.sums.proofs.forward_table.Invariants.{row}
use Rattle.sums.proofs.forward_table.Goals as goal

pub loop-i-init : goal.loop-i-init
loop-i-init c = filled_none _ _ _

pub loop-i-preserved : goal.loop-i-preserved
loop-i-preserved c = let a = c.args in
    filled_lent (a.m * entry_words) (row a.p a.mode a.n a.m a.r.now a.s.now) (λ t. length_row a.m _) _ c.loop-i.i c.loop-i.f _ c.loop-i.invariant
    (omega (arith, row_within a.n a.m a.f.now c.requires.1 c.loop-i.i c.loop-i-test.true)) c.forward_row.ensures
