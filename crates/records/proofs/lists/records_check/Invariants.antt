use mathlib.Core.Path.{◌≡◌}
use Prim.Native.Nat.{◌+◌, ◌*◌, ◌-◌}
use Rattle.records.specs.Records.{records_check}
use Rattle.records.proofs.lists.records_check.Given as goal

abbrev pub invariant-loop-e : goal.invariant-loop-e
invariant-loop-e l = records_check l.file l.h l.list l.first 0 l.count ≡ records_check l.file l.h l.list (l.first + l.e * l.size) l.low (l.count - l.e)
