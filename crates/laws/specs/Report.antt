-- The law report (01, "The three laws"; refusals 5 and 4): the whole row of the answer.
-- To be believed: all of it.
use Rattle.std.specs.Prelude.{ℕ, Bool, true, false, cond, List, [], Result, Ok, Err}
use Rattle.refusals.specs.declared.Refusal.{Refusal}
use Rattle.refusals.specs.declared.Told.{Told}
use Rattle.refusals.specs.Told.{told, done}
use Rattle.weights.specs.declared.Component.{Component}
use Rattle.weights.specs.declared.Language.{Language}
use Rattle.weights.specs.Sizes.{weight_words}
use Rattle.weights.specs.Weights.{unit_values}
use Rattle.weights.specs.Laws.{test_d, test_u, test_c, s_d, x_d, y_d, x_u, s_c}
use Rattle.weights.specs.Languages.{components_of, language_check}
use Rattle.weights.specs.Words.{filled}
use Rattle.weights.specs.PerPlace.{list_of}
use Rattle.laws.specs.declared.Law.{Law}
use Rattle.laws.specs.declared.Law.TheVariants.{Held, BrokenBy}
use Rattle.laws.specs.declared.LawReport.{LawReport}
use Rattle.refusals.specs.Checks.{answer_told, if_passed, Check}

-- One law of the report: held or not, and the words of s, x and y.
pub record LawRow : Type 0 where
  pub held : Bool
  pub s : List ℕ
  pub x : List ℕ
  pub y : List ℕ

-- The report: number, which and place, and the three laws.
pub record Report : Type 0 where
  pub told : Told
  pub law_d : LawRow
  pub law_u : LawRow
  pub law_c : LawRow

-- the words of a weight with these values
abbrev pub value_words : List ℕ → List ℕ
value_words = filled weight_words

-- words of zeros
abbrev pub no_words : List ℕ
no_words = value_words []

-- a law that is not reported: every field zero
abbrev pub untold : LawRow
untold = record { held = false; s = no_words; x = no_words; y = no_words }

-- held with words 0 where the test is true, else broken by s, x, y
abbrev pub law_row : Bool → List ℕ → List ℕ → List ℕ → LawRow
law_row t s x y = record {
  held = t;
  s = cond t no_words (value_words s);
  x = cond t no_words (value_words x);
  y = cond t no_words (value_words y);
}

-- D comes with s, x, y; U uses x alone; C's s and y are alike and its x is the unit.
abbrev pub laws_of : List Component → Report
laws_of cs = record {
  told = done;
  law_d = law_row (test_d cs) (s_d cs) (x_d cs) (y_d cs);
  law_u = law_row (test_u cs) [] (x_u cs) [];
  law_c = law_row (test_c cs) (s_c cs) (unit_values cs) (s_c cs);
}

-- on refusal every other field is zero
abbrev pub report_of : Check → List Component → Report
report_of c cs = if_passed c (laws_of cs) (record { told = answer_told c; law_d = untold; law_u = untold; law_c = untold })

-- The law report of a language.
abbrev pub report : Language → Report
report l = report_of (language_check l) (components_of l)

-- ---- what the code's answer says

-- the row of a law in the code's answer
abbrev pub law_of : Law → LawRow
law_of Held = record { held = true; s = no_words; x = no_words; y = no_words }
law_of (BrokenBy w) = record { held = false; s = list_of w.s; x = list_of w.x; y = list_of w.y }

-- the whole row of an answer
abbrev pub answer_row : Result LawReport Refusal → Report
answer_row (Ok r) = record { told = done; law_d = law_of r.d; law_u = law_of r.u; law_c = law_of r.c }
answer_row (Err r) = record { told = told r; law_d = untold; law_u = untold; law_c = untold }
