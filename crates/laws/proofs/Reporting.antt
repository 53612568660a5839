-- From the laws of the places to the report of the language.
use Prim.Native.Nat.{ℕ, ◌≤◌}
use mathlib.Core.Path.{◌≡◌, sym, ap, subst, ◌∙◌}
use mathlib.Core.Bool.{Bool}
use mathlib.Core.List.{List, []}
use lib.ListN.{length}
use Rattle.std.specs.Prelude.{Ok}
use Rattle.weights.specs.declared.Component.{Component}
use Rattle.weights.specs.declared.Language.{Language}
use Rattle.weights.specs.declared.PerPlace.{PerPlace}
use Rattle.weights.specs.Sizes.{places, weight_words}
use Rattle.weights.specs.Weights.{unit_values}
use Rattle.weights.specs.Laws.{test_d, test_u, test_c, s_d, x_d, y_d, x_u, s_c}
use Rattle.weights.specs.Languages.{components_of, language_check, padded, places_of}
use Rattle.weights.proofs.Padding.{filled_twice, unit_pad, test_d_pad, test_u_pad, test_c_pad, s_d_pad, x_d_pad, y_d_pad, x_u_pad, s_c_pad}
use Rattle.weights.proofs.Checking.{few}
use Rattle.laws.specs.declared.LawReport.{LawReport}
use Rattle.laws.specs.Report.{value_words, law_row, laws_of, report_of, report, law_of, answer_row}
use Rattle.refusals.specs.Checks.{Check}

-- ---- the places' laws are the components'

row_same : {t t' : Bool} {s x y : List ℕ} (s' x' y' : List ℕ) → t ≡ t' → s ≡ value_words s' → x ≡ value_words x' → y ≡ value_words y' → law_row t s x y ≡ law_row t' s' x' y'
row_same s' x' y' e p q k = rw (e, p, q, k, filled_twice weight_words s', filled_twice weight_words x', filled_twice weight_words y')

module _ (cs : List Component) (h : length cs ≤ places) where
  pub padded_d : law_row (test_d (padded places cs)) (s_d (padded places cs)) (x_d (padded places cs)) (y_d (padded places cs)) ≡ (laws_of cs).law_d
  padded_d = row_same (s_d cs) (x_d cs) (y_d cs) (test_d_pad places cs h) (s_d_pad places cs h) (x_d_pad places cs h) (y_d_pad places cs h)

  pub padded_u : law_row (test_u (padded places cs)) [] (x_u (padded places cs)) [] ≡ (laws_of cs).law_u
  padded_u = rw (test_u_pad places cs h, x_u_pad places cs h, filled_twice weight_words (x_u cs))

  pub padded_c : law_row (test_c (padded places cs)) (s_c (padded places cs)) (unit_values (padded places cs)) (s_c (padded places cs)) ≡ (laws_of cs).law_c
  padded_c = row_same (s_c cs) (unit_values cs) (s_c cs) (test_c_pad places cs h) (s_c_pad places cs h) (unit_pad places cs h) (s_c_pad places cs h)

pub report_laws : (l : Language) (p : PerPlace Component) (r : LawReport) → language_check l ≡ Ok tt → places_of p ≡ padded places (components_of l)
    → law_of r.d ≡ law_row (test_d (places_of p)) (s_d (places_of p)) (x_d (places_of p)) (y_d (places_of p))
    → law_of r.u ≡ law_row (test_u (places_of p)) [] (x_u (places_of p)) []
    → law_of r.c ≡ law_row (test_c (places_of p)) (s_c (places_of p)) (unit_values (places_of p)) (s_c (places_of p))
    → answer_row (Ok r) ≡ report l
report_laws l p r e q ed eu ec =
    subst (λ (k : Check). answer_row (Ok r) ≡ report_of k (components_of l)) (sym e)
    (λ i. record { told = (answer_row (Ok r)).told; law_d = row_d i; law_u = row_u i; law_c = row_c i })
  where
    row_d : law_of r.d ≡ (laws_of (components_of l)).law_d
    row_d = ed ∙ ap (λ (cs : List Component). law_row (test_d cs) (s_d cs) (x_d cs) (y_d cs)) q ∙ padded_d (components_of l) (few l)

    row_u : law_of r.u ≡ (laws_of (components_of l)).law_u
    row_u = eu ∙ ap (λ (cs : List Component). law_row (test_u cs) [] (x_u cs) []) q ∙ padded_u (components_of l) (few l)

    row_c : law_of r.c ≡ (laws_of (components_of l)).law_c
    row_c = ec ∙ ap (λ (cs : List Component). law_row (test_c cs) (s_c cs) (unit_values cs) (s_c cs)) q ∙ padded_c (components_of l) (few l)
