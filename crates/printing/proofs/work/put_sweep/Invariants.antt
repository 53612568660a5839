use Prim.Native.Nat.{◌+◌, ◌≤◌}
use Rattle.texts.proofs.Growing.{Grown}
use Rattle.printing.proofs.Sweeping.{alone}
use Rattle.printing.proofs.work.put_sweep.Given as goal

abbrev pub invariant-loop-i : goal.invariant-loop-i
invariant-loop-i l = (l.i ≤ l.n) × Grown 1 alone l.initial.list l.at l.i l.list (l.at + l.i)
