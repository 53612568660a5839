use Prim.Native.Nat.{ℕ, ◌*◌}
use mathlib.Core.List.{List}
use Rattle.algebra.specs.Step.{fresh}
use Rattle.weights.specs.declared.PerPlace.{PerPlace}
use Rattle.weights.specs.declared.Component.{Component}
use Rattle.weights.specs.Sizes.{weight_words}
use Rattle.weights.specs.Weights.{language}
use Rattle.weights.specs.Languages.{places_of}
use Rattle.matrices.specs.Buffers.{row_words}
use Rattle.matrices.proofs.Blocks.{Filled}
use Rattle.matrices.proofs.fresh.fresh.Given as goal

abbrev pub row : PerPlace Component → ℕ → ℕ → List ℕ
row p n i = row_words n (fresh (language (places_of p)) i)

abbrev pub invariant-loop-i : goal.invariant-loop-i
invariant-loop-i l = Filled (l.n * weight_words) (row l.p l.n) l.initial.r l.i l.r
