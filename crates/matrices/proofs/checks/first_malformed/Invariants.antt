use Prim.Native.Nat.{◌-◌, ◌*◌, ◌≤◌}
use mathlib.Core.Path.{◌≡◌}
use Rattle.weights.specs.Sizes.{weight_words}
use Rattle.weights.specs.Languages.{places_of}
use Rattle.matrices.specs.Buffers.{well_formed, first_malformed, matrix_check}
use Rattle.matrices.proofs.checks.first_malformed.Given as goal

abbrev pub invariant-loop-e : goal.invariant-loop-e
invariant-loop-e l = (l.e ≤ (l.n * l.n)) × (matrix_check l.which l.cap (places_of l.p) l.n l.s ≡ first_malformed (well_formed l.cap (places_of l.p) l.s) weight_words l.which l.e ((l.n * l.n) - l.e))
