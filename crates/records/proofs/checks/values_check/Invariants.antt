use mathlib.Core.Path.{◌≡◌}
use Prim.Native.Nat.{◌≤◌}
use Rattle.weights.specs.Languages.{components_of}
use Rattle.records.specs.Records.{values_check}
use Rattle.records.proofs.Remaining.{left_check}
use Rattle.records.proofs.checks.values_check.Given as goal

abbrev pub invariant-loop-k : goal.invariant-loop-k
invariant-loop-k l = (l.k ≤ l.l.count) × (values_check l.file (components_of l.l) l.at ≡ left_check l.file l.l l.at l.k)
