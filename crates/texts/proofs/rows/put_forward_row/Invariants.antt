use Prim.Native.Nat.{ℕ}
use mathlib.Core.List.{List}
use Rattle.tables.specs.Tables.{table_in}
use Rattle.texts.specs.Lines.{entry_line}
use Rattle.texts.proofs.Growing.{Grown}
use Rattle.texts.proofs.rows.put_forward_row.Given as goal

-- line d of the row
abbrev pub line : ℕ → ℕ → ℕ → ℕ → List ℕ → ℕ → List ℕ
line count mode m i f d = entry_line mode i d (table_in count m f i d)

abbrev pub invariant-loop-d : goal.invariant-loop-d
invariant-loop-d l = Grown 79 (line l.count l.mode l.m l.i l.f) l.initial.out l.at l.d l.out l.end
