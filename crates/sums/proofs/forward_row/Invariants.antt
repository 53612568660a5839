use Prim.Native.Nat.{ℕ}
use mathlib.Core.List.{List}
use Rattle.algebra.specs.Modes.{forwarded}
use Rattle.weights.specs.Languages.{places_of}
use Rattle.weights.specs.Weights.{language}
use Rattle.weights.specs.Sizes.{places, entry_words}
use Rattle.weights.specs.declared.PerPlace.{PerPlace}
use Rattle.weights.specs.declared.Component.{Component}
use Rattle.matrices.specs.Buffers.{matrix_in}
use Rattle.matrices.proofs.Blocks.{Filled}
use Rattle.tables.specs.Tables.{words_of, table_in}
use Rattle.modes.specs.Entries.{mode_of}
use Rattle.modes.specs.declared.Mode.{Mode}
use Rattle.sums.proofs.forward_row.Given as goal

abbrev pub block : PerPlace Component → Mode → ℕ → ℕ → List ℕ → List ℕ → ℕ → ℕ → List ℕ
block p mode n m r s i d = words_of (forwarded (language (places_of p)) (mode_of mode (places_of p)) n (matrix_in places n r) (table_in places m s) i d)

abbrev pub invariant-loop-d : goal.invariant-loop-d
invariant-loop-d l = Filled entry_words (block l.p l.mode l.n l.m l.r l.s l.node.0) l.initial.row l.d l.row
