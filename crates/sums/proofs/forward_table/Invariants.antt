use Prim.Native.Nat.{ℕ, ◌*◌}
use mathlib.Core.List.{List}
use Rattle.algebra.specs.Modes.{forwarded}
use Rattle.weights.specs.Languages.{places_of}
use Rattle.weights.specs.Weights.{language}
use Rattle.weights.specs.Sizes.{places, entry_words}
use Rattle.weights.specs.declared.PerPlace.{PerPlace}
use Rattle.weights.specs.declared.Component.{Component}
use Rattle.matrices.specs.Buffers.{matrix_in}
use Rattle.matrices.proofs.Blocks.{Filled}
use Rattle.tables.specs.Tables.{table_row_words, table_in}
use Rattle.modes.specs.Entries.{mode_of}
use Rattle.modes.specs.declared.Mode.{Mode}
use Rattle.sums.proofs.forward_table.Given as goal

abbrev pub row : PerPlace Component → Mode → ℕ → ℕ → List ℕ → List ℕ → ℕ → List ℕ
row p mode n m r s i = table_row_words m (forwarded (language (places_of p)) (mode_of mode (places_of p)) n (matrix_in places n r) (table_in places m s) i)

abbrev pub invariant-loop-i : goal.invariant-loop-i
invariant-loop-i l = Filled (l.m * entry_words) (row l.p l.mode l.n l.m l.r l.s) l.initial.f l.i l.f
