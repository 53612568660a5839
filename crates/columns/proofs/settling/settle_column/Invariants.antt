use Prim.Native.Nat.{◌-◌}
use Rattle.columns.proofs.Passes.{Settling}
use Rattle.columns.proofs.settling.settle_column.Given as goal

-- `counter` - 1 passes have been made
abbrev pub invariant-loop : goal.invariant-loop
invariant-loop l = Settling l.p l.n l.a l.j l.initial.entries (l.counter - 1) l.entries
