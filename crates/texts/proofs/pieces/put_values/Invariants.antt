use Rattle.texts.proofs.Composing.{Spaced}
use Rattle.texts.proofs.pieces.put_values.Given as goal

abbrev pub invariant-loop-x : goal.invariant-loop-x
invariant-loop-x l = Spaced l.x-items l.initial.out l.at l.x-index l.out l.end
