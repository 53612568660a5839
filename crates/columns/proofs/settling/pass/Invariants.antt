use mathlib.Core.Path.{◌≡◌}
use mathlib.Core.Bool.{false}
use Rattle.columns.proofs.Passes.{Passing}
use Rattle.columns.proofs.settling.pass.Given as goal

abbrev pub invariant-loop-i : goal.invariant-loop-i
invariant-loop-i l = Passing l.p l.n l.a l.j l.initial.entries l.i l.entries × (l.changed ≡ false → l.entries ≡ l.initial.entries)
