use Prim.Native.Nat.{◌*◌, ◌-◌, ◌≤◌}
use mathlib.Core.Path.{◌≡◌}
use Rattle.weights.specs.Languages.{places_of}
use Rattle.weights.specs.Sizes.{entry_words}
use Rattle.matrices.specs.Buffers.{first_malformed}
use Rattle.tables.specs.Tables.{well_formed_entry, table_check}
use Rattle.tables.proofs.checks.first_malformed_entry.Given as goal

abbrev pub invariant-loop-e : goal.invariant-loop-e
invariant-loop-e l = (l.e ≤ l.n * l.m) × (table_check l.which l.mode l.cap (places_of l.p) l.n l.m l.s ≡ first_malformed (well_formed_entry l.mode l.cap (places_of l.p) l.s) entry_words l.which l.e (l.n * l.m - l.e))
