use mathlib.Core.Path.{◌≡◌}
use Rattle.weights.specs.Languages.{places_of}
use Rattle.weights.specs.Sizes.{places}
use Rattle.matrices.specs.Buffers.{matrix_in}
use Rattle.tables.specs.Tables.{table_in}
use Rattle.modes.specs.Entries.{entry_of}
use Rattle.tables.proofs.Summing.{over}
use Rattle.sums.proofs.forward_entry.Given as goal

abbrev pub invariant-loop-k : goal.invariant-loop-k
invariant-loop-k l = entry_of l.e ≡ over l.mode (places_of l.p) (matrix_in places l.n l.r) (table_in places l.m l.s) l.fn.node.0 l.destination.0 l.k
