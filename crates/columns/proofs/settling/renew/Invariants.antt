use mathlib.Core.Path.{◌≡◌}
use Rattle.algebra.specs.Algebra.{order}
use Rattle.algebra.specs.Order.{best_of}
use Rattle.algebra.specs.Step.{fresh}
use Rattle.weights.specs.Sizes.{places}
use Rattle.weights.specs.Weights.{language}
use Rattle.weights.specs.Languages.{places_of}
use Rattle.weights.specs.Values.{weight_of}
use Rattle.matrices.specs.Buffers.{row_in, matrix_in}
use Rattle.columns.specs.Columns.{via}
use Rattle.columns.proofs.settling.renew.Given as goal

abbrev pub invariant-loop-k : goal.invariant-loop-k
invariant-loop-k l = weight_of l.w ≡ best_of (order (language (places_of l.p))) l.k (via (places_of l.p) (matrix_in places l.n l.a) (row_in places l.entries) l.i) (fresh (language (places_of l.p)) l.i l.j)
