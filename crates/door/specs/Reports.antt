-- A law report in words: twelve each for D, U and C, s before x before y; and which laws are held, in one number.
-- To be believed: all of it.
use Rattle.std.specs.Prelude.{ℕ, ◌+◌, Bool, cond, List, ◌++◌}
use Rattle.laws.specs.Report.{LawRow}

-- the words of a report
abbrev pub report_words : ℕ
report_words = 36

-- the twelve words of a law
abbrev pub law_words : LawRow → List ℕ
law_words w = w.s ++ w.x ++ w.y

-- the words of the three laws
abbrev pub laws_words : LawRow → LawRow → LawRow → List ℕ
laws_words d u c = law_words d ++ law_words u ++ law_words c

-- 1 for D, 2 for U and 4 for C, added where the flag is set
abbrev pub held_number : Bool → Bool → Bool → ℕ
held_number d u c = cond d 1 0 + cond u 2 0 + cond c 4 0

-- the same, where the law is held
abbrev pub held_laws : LawRow → LawRow → LawRow → ℕ
held_laws d u c = held_number d.held u.held c.held
