use native.Mathlib.Numerals.{towards_suc}
use native.Mathlib.Omega.{arith}
use Rattle.weights.specs.Words.{words}
use Rattle.words.proofs.Writing.{filled_is}
use Rattle.words.proofs.write_at.Goals as goal

pub returns-in_default : goal.returns-in_default
unfolding words
returns-in_default c = rw c.in_default.is (filled_is _ _ _ _ 4 _ (c.fill.ensures.after (λ y e. e)) (omega arith) (omega arith))

pub returns : goal.returns
unfolding words
returns c = rw c.in-Route.is (simp towards_suc)
