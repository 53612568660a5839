use Prim.Native.Nat.{◌≤◌}
use lib.ListN.{length}
use Rattle.routes.proofs.Lists.{Running}
use Rattle.steps.proofs.run.Given as goal

abbrev pub invariant-loop-done : goal.invariant-loop-done
invariant-loop-done l = (l.done ≤ length l.list) × Running l.p l.n l.a l.initial.r l.list l.done l.r
