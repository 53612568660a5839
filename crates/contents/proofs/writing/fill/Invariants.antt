use Rattle.contents.proofs.Storing.{Stored}
use Rattle.contents.proofs.writing.fill.Given as goal

abbrev pub invariant-loop-e : goal.invariant-loop-e
invariant-loop-e l = Stored l.file l.h l.list l.first l.e l.initial.r l.r
