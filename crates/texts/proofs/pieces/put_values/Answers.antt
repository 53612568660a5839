use Prim.Native.Nat.{ℕ}
use mathlib.Core.List.{[], ◌∷◌}
use native.Mathlib.Omega.{arith}
use lib.ListN.{take, length-take}
use Rattle.texts.proofs.Composing.{spaced_none, spaced_more, spaced_all}
use Rattle.texts.proofs.pieces.put_values.Goals as goal

pub loop-x-init : goal.loop-x-init
loop-x-init c = let a = c.args in spaced_none (take a.count (a.first ∷ a.second ∷ a.third ∷ a.fourth ∷ [])) _ _

pub put_field-end-requires : goal.put_field-end-requires
put_field-end-requires c = omega (arith, length-take {A = ℕ})

pub loop-x-preserved : goal.loop-x-preserved
loop-x-preserved c = spaced_more _ _ _ c.loop-x.x-index c.loop-x-test.true c.loop-x.invariant c.put_field-end.ensures

pub returns : goal.returns
returns c = spaced_all _ _ _ c.loop-x.x-index 4 c.loop-x-test.false (omega (arith, length-take {A = ℕ})) c.loop-x.invariant
