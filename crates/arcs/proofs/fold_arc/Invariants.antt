use Prim.Native.Nat.{ℕ}
use mathlib.Core.List.{List}
use Rattle.weights.specs.declared.PerPlace.{PerPlace}
use Rattle.weights.specs.declared.Component.{Component}
use Rattle.weights.specs.declared.Weight as declared
use Rattle.weights.specs.Sizes.{places, weight_words}
use Rattle.weights.specs.Languages.{places_of}
use Rattle.weights.specs.Values.{weight_of}
use Rattle.weights.specs.Words.{words}
use Rattle.matrices.specs.Buffers.{row_in, matrix_in}
use Rattle.matrices.specs.Parts.{folded}
use Rattle.matrices.proofs.Blocks.{Filled}
use Rattle.arcs.proofs.fold_arc.Given as goal

abbrev pub block : PerPlace Component → declared.Weight → List ℕ → ℕ → ℕ → List ℕ → ℕ → List ℕ
block p x r n k s j = words (folded (places_of p) (weight_of x) (matrix_in places n r k) (row_in places s) j)

abbrev pub invariant-loop-j : goal.invariant-loop-j
invariant-loop-j l = Filled weight_words (block l.p l.x l.r l.n l.k l.initial.row) l.initial.row l.j l.row
