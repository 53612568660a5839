use Prim.Native.Nat.{◌≤◌}
use mathlib.Core.Path.{◌≡◌}
use mathlib.Core.List.{[], ◌∷◌}
use lib.ListN.{length, drop}
use Rattle.refusals.specs.Checks.{first_of}
use Rattle.guards.specs.Checks.{many_case, list_case, steps_from}
use Rattle.steps.proofs.check_list.Given as goal

abbrev pub invariant-loop-k : goal.invariant-loop-k
invariant-loop-k l = (l.k ≤ length l.list) × (first_of ((many_case l.list).check ∷ (list_case l.n l.list).check ∷ []) ≡ steps_from l.n l.k (drop l.k l.list))
