use Prim.Native.Nat.{ℕ, ◌*◌}
use mathlib.Core.List.{List}
use Rattle.matrices.specs.Buffers.{matrix_in}
use Rattle.texts.specs.Lines.{route_row}
use Rattle.texts.proofs.Growing.{Grown}
use Rattle.texts.proofs.rows.put_routes.Given as goal

-- the lines of row i
abbrev pub row : ℕ → ℕ → List ℕ → ℕ → List ℕ
row count n r i = route_row n (matrix_in count n r) i

abbrev pub invariant-loop-i : goal.invariant-loop-i
invariant-loop-i l = Grown (l.n * 68) (row l.count l.n l.r) l.initial.out l.at l.i l.out l.end
