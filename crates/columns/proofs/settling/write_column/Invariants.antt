use mathlib.Core.Path.{◌≡◌}
use Rattle.weights.specs.Sizes.{places}
use Rattle.matrices.specs.Buffers.{matrix_words, row_in, matrix_in}
use Rattle.columns.proofs.Written.{column_to}
use Rattle.columns.proofs.settling.write_column.Given as goal

abbrev pub invariant-loop-i : goal.invariant-loop-i
invariant-loop-i l = l.r ≡ matrix_words l.n (column_to l.i l.j (row_in places l.entries) (matrix_in places l.n l.initial.r))
