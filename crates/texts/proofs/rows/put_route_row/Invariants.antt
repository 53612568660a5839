use Prim.Native.Nat.{ℕ}
use mathlib.Core.List.{List}
use Rattle.matrices.specs.Buffers.{matrix_in}
use Rattle.texts.specs.Lines.{route_line}
use Rattle.texts.proofs.Growing.{Grown}
use Rattle.texts.proofs.rows.put_route_row.Given as goal

-- line j of the row
abbrev pub line : ℕ → ℕ → ℕ → List ℕ → ℕ → List ℕ
line count n i r j = route_line i j (matrix_in count n r i j)

abbrev pub invariant-loop-j : goal.invariant-loop-j
invariant-loop-j l = Grown 68 (line l.count l.n l.i l.r) l.initial.out l.at l.j l.out l.end
