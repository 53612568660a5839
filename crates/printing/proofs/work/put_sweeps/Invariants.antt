use Prim.Native.Nat.{◌*◌, ◌-◌, ◌≤◌}
use Rattle.texts.proofs.Growing.{Grown}
use Rattle.printing.proofs.Sweeping.{round}
use Rattle.printing.proofs.work.put_sweeps.Given as goal

abbrev pub invariant-loop-t : goal.invariant-loop-t
invariant-loop-t l = (l.t ≤ (l.n - 1)) × Grown l.n (round l.n) l.initial.list 0 l.t l.list (l.t * l.n)
