use native.Mathlib.Numerals.{towards_suc}
use native.Mathlib.Omega.{arith}
use Rattle.weights.specs.Words.{words}
use Rattle.words.proofs.Writing.{filled_is}
use Rattle.tables.specs.Tables.{words_of}
use Rattle.tables.proofs.entries.write_at.Goals as goal

pub returns-in_default : goal.returns-in_default
unfolding words_of
returns-in_default c = rw c.in_default.is (filled_is _ _ _ _ 5 _ (c.fill.ensures.after (λ y e. e)) (omega arith) (omega arith))

pub returns : goal.returns
unfolding words words_of
returns c = rw (c.write_at.ensures, c.weight.ensures, c.in-Mapped.is) (simp towards_suc)
