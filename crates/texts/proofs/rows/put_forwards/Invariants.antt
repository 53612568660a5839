use Prim.Native.Nat.{ℕ, ◌*◌}
use mathlib.Core.List.{List}
use Rattle.tables.specs.Tables.{table_in}
use Rattle.texts.specs.Lines.{entry_row}
use Rattle.texts.proofs.Growing.{Grown}
use Rattle.texts.proofs.rows.put_forwards.Given as goal

-- the lines of row i
abbrev pub row : ℕ → ℕ → ℕ → List ℕ → ℕ → List ℕ
row count mode m f i = entry_row mode m (table_in count m f) i

abbrev pub invariant-loop-i : goal.invariant-loop-i
invariant-loop-i l = Grown (l.m * 79) (row l.count l.mode l.m l.f) l.initial.out l.at l.i l.out l.end
