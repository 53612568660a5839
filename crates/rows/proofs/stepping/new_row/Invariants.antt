use Rattle.matrices.proofs.Rounds.{Taken}
use Rattle.rows.proofs.stepping.new_row.Given as goal

abbrev pub invariant-loop-k : goal.invariant-loop-k
invariant-loop-k l = Taken l.p l.n l.a l.r l.i l.initial.row l.k l.row
