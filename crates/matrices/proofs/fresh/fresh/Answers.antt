use Prim.Native.Nat.{◌*◌}
use native.Mathlib.Omega.{arith}
use Rattle.weights.specs.Sizes.{weight_words}
use Rattle.matrices.proofs.Blocks.{filled_none, filled_lent, block_room}
use Rattle.matrices.proofs.Entries.{length_row}
use Rattle.matrices.proofs.fresh.fresh.Invariants.{row}
use Rattle.matrices.proofs.fresh.fresh.Goals as goal

pub loop-i-init : goal.loop-i-init
loop-i-init c = filled_none _ _ _

pub loop-i-preserved : goal.loop-i-preserved
loop-i-preserved c = let n = c.args.n in
    filled_lent (n * weight_words) (row c.args.p n) (λ t. length_row n _) _ c.loop-i.i c.loop-i.r _ c.loop-i.invariant (omega (arith, block_room (n * weight_words) c.loop-i.i n c.loop-i-test.true, c.requires.long)) c.fresh_row.ensures
