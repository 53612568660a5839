-- Demand 2 of the law report: a law is reported held exactly when it holds for all weights of the language; a broken one comes with
-- weights that break it; each refusal is given exactly in its case; two answers that meet the contract are equal.
use Prim.Native.Nat.{ℕ, ◌≤◌}
use mathlib.Core.Path.{◌≡◌, refl, sym, ap, ◌∙◌}
use mathlib.Core.Bool.{Bool, true, false, false≢true}
use mathlib.Core.List.{List, []}
use mathlib.Core.Logic.{◌↔◌}
use Rattle.std.specs.Prelude.{Result, Ok, Err}
use Rattle.refusals.specs.declared.Refusal.{Refusal}
use Rattle.refusals.specs.Told.{done}
use Rattle.refusals.proofs.OneToOne.{told_one, told_not_done}
use Rattle.refusals.specs.Checks.{answer_told, Check}
use Rattle.refusals.specs.Cases.{ToldExactly}
use Rattle.refusals.proofs.Cases.{told_exactly}
use Rattle.weights.specs.declared.Language.{Language}
use Rattle.weights.specs.Sizes.{places}
use Rattle.weights.specs.Weights.{Sound, route, unit, unit_values}
use Rattle.weights.specs.Laws.{LawD, LawU, LawC, test_d, test_u, test_c, s_d, x_d, y_d, x_u, s_c, BreaksD, BreaksU, BreaksC}
use Rattle.weights.specs.Languages.{components_of, language_cases, language_check}
use Rattle.weights.proofs.Decided.{d_exact, u_exact, c_exact, d_broken, u_broken, c_broken}
use Rattle.weights.proofs.Checking.{check_sound, sound_count, count_in, limits_exact}
use Rattle.weights.proofs.Cases.{language_exact}
use Rattle.weights.specs.declared.PerPlace.{PerPlace}
use Rattle.weights.specs.PerPlace.{list_of}
use Rattle.laws.specs.declared.Law.{Law}
use Rattle.laws.specs.declared.Law.TheVariants.{Held, BrokenBy}
use Rattle.laws.specs.declared.LawReport.{LawReport}
use Rattle.laws.specs.Verdicts.{Shown, LawsHold}
use Rattle.laws.specs.Report.{LawRow, Report, law_row, laws_of, report_of, report, law_of, answer_row}

-- ---- the verdicts, of a language that passes its checks

module _ (l : Language) (e : language_check l ≡ Ok tt) where
  told_laws : report l ≡ laws_of (components_of l)
  told_laws = ap (λ (k : Check). report_of k (components_of l)) e

  same_test : {t u : Bool} {P : Type 0} → u ≡ t → (t ≡ true) ↔ P → (u ≡ true) ↔ P
  same_test q x = (λ h. x.0 (sym q ∙ h), λ p. q ∙ x.1 p)

  pub d_reported : ((report l).law_d.held ≡ true) ↔ LawD (components_of l)
  d_reported = same_test (ap (λ (r : Report). r.law_d.held) told_laws) (d_exact (components_of l) (check_sound l e))

  pub u_reported : ((report l).law_u.held ≡ true) ↔ LawU (components_of l)
  u_reported = same_test (ap (λ (r : Report). r.law_u.held) told_laws) (u_exact (components_of l) (check_sound l e))

  pub c_reported : ((report l).law_c.held ≡ true) ↔ LawC (components_of l)
  c_reported = same_test (ap (λ (r : Report). r.law_c.held) told_laws) (c_exact (components_of l) (check_sound l e))

  shown : (row : LawRow) (t : Bool) (s x y : List ℕ) (B : Type 0) → row ≡ law_row t s x y → t ≡ false → B → Shown row s x y B
  shown row t s x y B r q b = record {
    s_words = ap (λ (w : LawRow). w.s) r ∙ rw q;
    x_words = ap (λ (w : LawRow). w.x) r ∙ rw q;
    y_words = ap (λ (w : LawRow). w.y) r ∙ rw q;
    breaks = b;
  }

  pub d_shown : (report l).law_d.held ≡ false → Shown (report l).law_d (s_d (components_of l)) (x_d (components_of l)) (y_d (components_of l)) (BreaksD (components_of l) (route (s_d (components_of l))) (route (x_d (components_of l))) (route (y_d (components_of l))))
  d_shown h =
      let q : test_d (components_of l) ≡ false = sym (ap (λ (r : Report). r.law_d.held) told_laws) ∙ h in
      shown (report l).law_d (test_d (components_of l)) (s_d (components_of l)) (x_d (components_of l)) (y_d (components_of l)) _ (ap (λ (r : Report). r.law_d) told_laws) q (d_broken (components_of l) (check_sound l e) q)

  pub u_shown : (report l).law_u.held ≡ false → Shown (report l).law_u [] (x_u (components_of l)) [] (BreaksU (components_of l) (route (x_u (components_of l))))
  u_shown h =
      let q : test_u (components_of l) ≡ false = sym (ap (λ (r : Report). r.law_u.held) told_laws) ∙ h in
      shown (report l).law_u (test_u (components_of l)) [] (x_u (components_of l)) [] _ (ap (λ (r : Report). r.law_u) told_laws) q (u_broken (components_of l) (check_sound l e) q)

  pub c_shown : (report l).law_c.held ≡ false → Shown (report l).law_c (s_c (components_of l)) (unit_values (components_of l)) (s_c (components_of l)) (BreaksC (components_of l) (route (s_c (components_of l))) (unit (components_of l)) (route (s_c (components_of l))))
  c_shown h =
      let q : test_c (components_of l) ≡ false = sym (ap (λ (r : Report). r.law_c.held) told_laws) ∙ h in
      shown (report l).law_c (test_c (components_of l)) (s_c (components_of l)) (unit_values (components_of l)) (s_c (components_of l)) _ (ap (λ (r : Report). r.law_c) told_laws) q (c_broken (components_of l) (check_sound l e) q)

-- ---- the same from an answer that gives the three laws

-- an answer with the laws is given exactly for a language of 1 to 4 components with sound limits
pub laws_exactly : (l : Language) → ((report l).told ≡ done) ↔ ((1 ≤ l.count) × (l.count ≤ places) × Sound (components_of l))
laws_exactly l = (λ e. sound_count l (passes (language_check l) refl e), λ h. ap (λ (k : Check). (report_of k (components_of l)).told) (count_in l h.0 h.1 ∙ (limits_exact (components_of l)).1 h.2))
  where
    passes : (k : Check) → language_check l ≡ k → (report_of k (components_of l)).told ≡ done → language_check l ≡ Ok tt
    passes (Ok _) p e = p
    passes (Err r) p e = absurd (told_not_done r e)

-- an answer with the laws says which hold
pub answer_laws : (l : Language) (r : LawReport) → answer_row (Ok r) ≡ report l → LawsHold (components_of l) r.d r.u r.c
answer_laws l r e =
    let p : language_check l ≡ Ok tt = passed_by l (sym (ap (λ (r : Report). r.told) e)) in
    record {
      holds_d = same_test l p (ap (λ (r : Report). r.law_d.held) e) (d_reported l p);
      holds_u = same_test l p (ap (λ (r : Report). r.law_u.held) e) (u_reported l p);
      holds_c = same_test l p (ap (λ (r : Report). r.law_c.held) e) (c_reported l p);
    }
  where
    passed_by : (l : Language) → (report l).told ≡ done → language_check l ≡ Ok tt
    passed_by l e = let h = (laws_exactly l).0 e in count_in l h.0 h.1 ∙ (limits_exact (components_of l)).1 h.2

-- ---- the refusals

-- Each refusal exactly where it is due, and the laws exactly where none is.
pub laws_told : (l : Language) → ToldExactly (language_cases l) (report l).told
laws_told l = told_exactly (language_cases l) (language_exact l) (report l).told (tells (language_check l))
  where
    tells : (k : Check) → (report_of k (components_of l)).told ≡ answer_told k
    tells (Ok _) = refl
    tells (Err r) = refl

-- ---- two answers with one row are equal

pub words_one : (v w : PerPlace ℕ) → list_of v ≡ list_of w → v ≡ w
words_one v w e = λ i. record { first = a i; second = b i; third = c i; fourth = d i }
  where
    a : v.first ≡ w.first
    a = cc

    b : v.second ≡ w.second
    b = cc

    c : v.third ≡ w.third
    c = cc

    d : v.fourth ≡ w.fourth
    d = cc

law_one : (v w : Law) → law_of v ≡ law_of w → v ≡ w
law_one Held Held e = refl
law_one Held (BrokenBy w) e = absurd (false≢true (sym (ap (λ (r : LawRow). r.held) e)))
law_one (BrokenBy v) Held e = absurd (false≢true (ap (λ (r : LawRow). r.held) e))
law_one (BrokenBy v) (BrokenBy w) e = λ i. BrokenBy (record { s = s i; x = x i; y = y i })
  where
    s : v.s ≡ w.s
    s = words_one v.s w.s (ap (λ (r : LawRow). r.s) e)

    x : v.x ≡ w.x
    x = words_one v.x w.x (ap (λ (r : LawRow). r.x) e)

    y : v.y ≡ w.y
    y = words_one v.y w.y (ap (λ (r : LawRow). r.y) e)

row_one : (a b : Result LawReport Refusal) → answer_row a ≡ answer_row b → a ≡ b
row_one (Ok q) (Ok r) e = λ i. Ok (record { d = law_one q.d r.d (ap (λ (x : Report). x.law_d) e) i; u = law_one q.u r.u (ap (λ (x : Report). x.law_u) e) i; c = law_one q.c r.c (ap (λ (x : Report). x.law_c) e) i })
row_one (Ok q) (Err r) e = absurd (told_not_done r (sym (ap (λ (x : Report). x.told) e)))
row_one (Err q) (Ok r) e = absurd (told_not_done q (ap (λ (x : Report). x.told) e))
row_one (Err q) (Err r) e = ap Err (told_one q r (ap (λ (x : Report). x.told) e))

pub answers_equal : (l : Language) (a b : Result LawReport Refusal) → answer_row a ≡ report l → answer_row b ≡ report l → a ≡ b
answers_equal l a b p q = row_one a b (p ∙ sym q)
