-- The tests decide the laws, and the witnesses break them.
use Prim.Native.Nat.{ℕ}
use mathlib.Core.Path.{◌≡◌, refl, sym, ap, ap₂, subst, ◌∙◌}
use mathlib.Core.Bool.{Bool, true, false, not, cond, ◌&&◌, ◌||◌}
use mathlib.Core.List.{List, [], ◌∷◌}
use mathlib.Core.Logic.{⊎_elim, ◌↔◌}
use native.Mathlib.Omega.{arith}
use lib.Dec.{eqb}
use borrow.Author.Tests.{eqb-true, eqb-false, not-true, not-false}
use Rattle.weights.specs.declared.Component.{Component}
use Rattle.weights.specs.declared.Component.TheVariants.{Dist, Width, Class, Gain}
use Rattle.weights.specs.Weights.{Weight, none, route, Valid, ValidValues, ValidValue, Sound, SoundLimit, better, better_values, join, join_values, join_value, unit, unit_values, unit_value, better_of, IsRoute}
use Rattle.weights.specs.Laws.{LawD, LawU, LawC, lossy, is_gain, non_trivial, some_non_trivial, lossy_before, test_d, test_u, test_c, worst, worse_of_two, better_of_two, at_first, s_d, x_d, y_d, x_u, s_c, BreaksD, BreaksU, BreaksC}
use Rattle.weights.proofs.Ordering.{NoWorse, Lt1, Three, ahead, level, behind, three1, lt_ne, mono1, unit_valid1, head_ahead, head_behind, head_level, clash, irrefl_v, unit_join_values, join_valid_v, unit_valid_v, irrefl, asym, total, antisym, join_valid, better_of_first, better_of_second, ThreeW, before, equal, after}

-- ---- truth values

and_left : (a b : Bool) → (a && b) ≡ true → a ≡ true
and_left true b e = refl
and_left false b e = e

and_right : (a b : Bool) → (a && b) ≡ true → b ≡ true
and_right true b e = e
and_right false b e = clash false e refl

or_left : (a b : Bool) → (a || b) ≡ false → a ≡ false
or_left true b e = e
or_left false b e = refl

or_right : (a b : Bool) → (a || b) ≡ false → b ≡ false
or_right true b e = clash true refl e
or_right false b e = e

-- ---- one component

-- a trivial component has one value
single1 : (c : Component) (x y : ℕ) → non_trivial c ≡ false → ValidValue c x → ValidValue c y → x ≡ y
single1 Dist x y e v w = clash true refl e
single1 (Width k) x y e v w = omega (arith, eqb-true k 1 (not-false (eqb k 1) e))
single1 (Class k) x y e v w = omega (arith, eqb-true k 0 (not-false (eqb k 0) e))
single1 Gain x y e v w = clash true refl e

-- what is no lossy component cancels
cancel1 : (c : Component) (s x y : ℕ) → lossy c ≡ false → ValidValue c x → ValidValue c y → join_value c s x ≡ join_value c s y → x ≡ y
cancel1 Dist s x y e v w q = omega arith
cancel1 (Width k) s x y e v w q = single1 (Width k) x y e v w
cancel1 (Class k) s x y e v w q = single1 (Class k) x y e v w
cancel1 Gain s x y e v w q = omega arith

-- at a lossy component the unit is better than the worst
unit_ahead : (c : Component) → SoundLimit c → lossy c ≡ true → Lt1 c (unit_value c) (worst c)
unit_ahead Dist h e = clash false e refl
unit_ahead (Width k) h e = omega (arith, eqb-false k 1 (not-true (eqb k 1) e))
unit_ahead (Class k) h e = omega (arith, eqb-false k 0 (not-true (eqb k 0) e))
unit_ahead Gain h e = clash false e refl

worst_valid : (c : Component) → SoundLimit c → ValidValue c (worst c)
worst_valid Dist h = tt
worst_valid (Width k) h = omega arith
worst_valid (Class k) h = omega arith
worst_valid Gain h = tt

-- the worst absorbs at width and class
worst_unit : (c : Component) → SoundLimit c → join_value c (worst c) (worst c) ≡ join_value c (worst c) (unit_value c)
worst_unit Dist h = refl
worst_unit (Width k) h = omega arith
worst_unit (Class k) h = omega arith
worst_unit Gain h = refl

good_ahead : (c : Component) → SoundLimit c → non_trivial c ≡ true → Lt1 c (better_of_two c) (worse_of_two c)
good_ahead Dist h e = omega arith
good_ahead (Width k) h e = unit_ahead (Width k) h e
good_ahead (Class k) h e = unit_ahead (Class k) h e
good_ahead Gain h e = omega arith

worse_valid : (c : Component) → SoundLimit c → ValidValue c (worse_of_two c)
worse_valid Dist h = tt
worse_valid (Width k) h = omega arith
worse_valid (Class k) h = omega arith
worse_valid Gain h = tt

good_valid : (c : Component) → SoundLimit c → ValidValue c (better_of_two c)
good_valid Dist h = tt
good_valid (Width k) h = omega arith
good_valid (Class k) h = omega arith
good_valid Gain h = tt

-- without gain no value is better than the unit
unit_first : (c : Component) (x : ℕ) → is_gain c ≡ false → ValidValue c x → Lt1 c x (unit_value c) → ⊥
unit_first Dist x e v p = omega arith
unit_first (Width k) x e v p = omega arith
unit_first (Class k) x e v p = omega arith
unit_first Gain x e v p = clash true refl e

one_ahead : (c : Component) → is_gain c ≡ true → Lt1 c 1 (unit_value c)
one_ahead Dist e = clash false e refl
one_ahead (Width k) e = clash false e refl
one_ahead (Class k) e = clash false e refl
one_ahead Gain e = omega arith

one_valid : (c : Component) → is_gain c ≡ true → ValidValue c 1
one_valid Dist e = tt
one_valid (Width k) e = clash false e refl
one_valid (Class k) e = clash false e refl
one_valid Gain e = tt

-- ---- D: where the test holds, join keeps the order

single_v : (cs : List Component) (xs ys : List ℕ) → some_non_trivial cs ≡ false → ValidValues cs xs → ValidValues cs ys → xs ≡ ys
single_v [] [] [] e v w = refl
single_v [] [] (y ∷ ys) e v w = absurd w
single_v [] (x ∷ xs) ys e v w = absurd v
single_v (c ∷ cs) [] ys e v w = absurd v
single_v (c ∷ cs) (x ∷ xs) [] e v w = absurd w
single_v (c ∷ cs) (x ∷ xs) (y ∷ ys) e v w =
    ap₂ ◌∷◌ (single1 c x y (or_left (non_trivial c) (some_non_trivial cs) e) v.0 w.0) (single_v cs xs ys (or_right (non_trivial c) (some_non_trivial cs) e) v.1 w.1)

strict1 : (c : Component) (s x y : ℕ) → lossy c ≡ false → ValidValue c x → ValidValue c y → Lt1 c x y → Lt1 c (join_value c s x) (join_value c s y)
strict1 c s x y e v w p = ⊎_elim (λ q. q) (λ q. absurd (lt_ne c x y p (cancel1 c s x y e v w q))) (mono1 c s x y p)

-- after a lossy component, in a language that passes the test, all is trivial
rest_trivial : (c : Component) (cs : List Component) → test_d (c ∷ cs) ≡ true → lossy c ≡ true → some_non_trivial cs ≡ false
rest_trivial c cs t e = go (lossy c) (some_non_trivial cs) e (not-true (lossy_before c cs) (and_left (not (lossy_before c cs)) (test_d cs) t))
  where
    go : (a b : Bool) → a ≡ true → (a && b) ≡ false → b ≡ false
    go true b p q = q
    go false b p q = clash false p refl

pub mono_v : (cs : List Component) (ss xs ys : List ℕ) → test_d cs ≡ true → ValidValues cs ss → ValidValues cs xs → ValidValues cs ys
    → better_values cs ys xs ≡ false → better_values cs (join_values cs ss ys) (join_values cs ss xs) ≡ false
mono_v [] ss xs ys t u v w p = refl
mono_v (c ∷ cs) [] xs ys t u v w p = refl
mono_v (c ∷ cs) (s ∷ ss) [] ys t u v w p = absurd v
mono_v (c ∷ cs) (s ∷ ss) (x ∷ xs) [] t u v w p = refl
mono_v (c ∷ cs) (s ∷ ss) (x ∷ xs) (y ∷ ys) t u v w p =
    go (three1 c x y) (lossy c) refl (mono_v cs ss xs ys (and_right (not (lossy_before c cs)) (test_d cs) t) u.1 v.1 w.1)
  where
    jx : List ℕ
    jx = join_values cs ss xs

    jy : List ℕ
    jy = join_values cs ss ys

    strict : Lt1 c (join_value c s x) (join_value c s y) → better_values (c ∷ cs) (join_value c s y ∷ jy) (join_value c s x ∷ jx) ≡ false
    strict q = head_behind c cs (join_value c s x) (join_value c s y) jx jy q

    flat : join_value c s x ≡ join_value c s y → better_values cs jy jx ≡ false → better_values (c ∷ cs) (join_value c s y ∷ jy) (join_value c s x ∷ jx) ≡ false
    flat e q = head_level c cs (join_value c s y) (join_value c s x) jy jx (sym e) ∙ q

    go : Three c x y → (b : Bool) → lossy c ≡ b → (better_values cs ys xs ≡ false → better_values cs jy jx ≡ false)
        → better_values (c ∷ cs) (join_value c s y ∷ jy) (join_value c s x ∷ jx) ≡ false
    go (level e) b l ih = flat (ap (join_value c s) e) (ih (sym (head_level c cs y x ys xs (sym e)) ∙ p))
    go (behind q) b l ih = clash (better_values (c ∷ cs) (y ∷ ys) (x ∷ xs)) (head_ahead c cs y x ys xs q) p
    go (ahead q) false l ih = strict (strict1 c s x y l v.0 w.0 q)
    go (ahead q) true l ih =
        ⊎_elim strict
        (λ e. flat e (rw (single_v cs jy jx (rest_trivial c cs t l) (join_valid_v cs ss ys u.1 w.1) (join_valid_v cs ss xs u.1 v.1)) (irrefl_v cs jx)))
        (mono1 c s x y q)

-- D in the monotone form
pub monotone : (cs : List Component) → test_d cs ≡ true → (s x y : Weight) → Valid cs s → Valid cs x → Valid cs y → NoWorse cs x y → NoWorse cs (join cs s x) (join cs s y)
monotone cs t none x y u v w p = refl
monotone cs t (route ss) none none u v w p = refl
monotone cs t (route ss) none (route ys) u v w p = clash true refl p
monotone cs t (route ss) (route xs) none u v w p = refl
monotone cs t (route ss) (route xs) (route ys) u v w p = mono_v cs ss xs ys t u v w p

pub d_holds : (cs : List Component) → test_d cs ≡ true → LawD cs
d_holds cs t s x y u v w = go (total cs x y v w)
  where
    sx : Weight
    sx = join cs s x

    sy : Weight
    sy = join cs s y

    go : ThreeW cs x y → join cs s (better_of cs x y) ≡ better_of cs sx sy
    go (before a b) = rw (better_of_first cs x y b, better_of_first cs sx sy (monotone cs t s x y u v w b))
    go (equal e) = rw e (ap (join cs s) (better_of_first cs y y (irrefl cs y)) ∙ sym (better_of_first cs sy sy (irrefl cs sy)))
    go (after a b) = rw (better_of_second cs x y a) (last (better cs sy sx) refl)
      where
        last : (k : Bool) → better cs sy sx ≡ k → sy ≡ better_of cs sx sy
        last true e = sym (better_of_second cs sx sy e)
        last false e = antisym cs sy sx (join_valid cs s y u w) (join_valid cs s x u v) (monotone cs t s y x u w v b) e ∙ sym (better_of_first cs sx sy e)

-- ---- D: where the test fails, the witness breaks the law

at_first_valid : (p : Component → Bool) (f : Component → ℕ) → ((c : Component) → SoundLimit c → p c ≡ true → ValidValue c (f c)) → (cs : List Component) → Sound cs → ValidValues cs (at_first p f cs)
at_first_valid p f h [] k = tt
at_first_valid p f h (c ∷ cs) k = go (p c) refl (at_first_valid p f h cs k.1)
  where
    go : (b : Bool) → p c ≡ b → ValidValues cs (at_first p f cs) → ValidValues (c ∷ cs) (cond b (f c ∷ unit_values cs) (unit_value c ∷ at_first p f cs))
    go true e r = (h c k.0 e, unit_valid_v cs k.1)
    go false e r = (unit_valid1 c k.0, r)

good_better : (cs : List Component) → Sound cs → some_non_trivial cs ≡ true → better_values cs (at_first non_trivial better_of_two cs) (at_first non_trivial worse_of_two cs) ≡ true
good_better [] h e = e
good_better (c ∷ cs) h e = go (non_trivial c) refl (good_better cs h.1)
  where
    go : (b : Bool) → non_trivial c ≡ b → (some_non_trivial cs ≡ true → better_values cs (at_first non_trivial better_of_two cs) (at_first non_trivial worse_of_two cs) ≡ true)
        → better_values (c ∷ cs) (cond b (better_of_two c ∷ unit_values cs) (unit_value c ∷ at_first non_trivial better_of_two cs)) (cond b (worse_of_two c ∷ unit_values cs) (unit_value c ∷ at_first non_trivial worse_of_two cs)) ≡ true
    go true f ih = head_ahead c cs (better_of_two c) (worse_of_two c) (unit_values cs) (unit_values cs) (good_ahead c h.0 f)
    go false f ih = head_level c cs (unit_value c) (unit_value c) (at_first non_trivial better_of_two cs) (at_first non_trivial worse_of_two cs) refl ∙ ih (later (non_trivial c) (some_non_trivial cs) f e)
      where
        later : (a b : Bool) → a ≡ false → (a || b) ≡ true → b ≡ true
        later true b p q = clash true refl p
        later false b p q = q

good_valid_v : (cs : List Component) → Sound cs → ValidValues cs (at_first non_trivial better_of_two cs)
good_valid_v cs h = at_first_valid non_trivial better_of_two (λ c k e. good_valid c k) cs h

worse_valid_v : (cs : List Component) → Sound cs → ValidValues cs (at_first non_trivial worse_of_two cs)
worse_valid_v cs h = at_first_valid non_trivial worse_of_two (λ c k e. worse_valid c k) cs h

-- what the witness of D is, at a component and the rest
record WitnessD (cs : List Component) (ss xs ys : List ℕ) : Type 0 where
  s_valid : ValidValues cs ss
  x_valid : ValidValues cs xs
  y_valid : ValidValues cs ys
  x_better : better_values cs xs ys ≡ true
  y_better : better_values cs (join_values cs ss ys) (join_values cs ss xs) ≡ true

witness_d : (cs : List Component) → Sound cs → test_d cs ≡ false → WitnessD cs (s_d cs) (x_d cs) (y_d cs)
witness_d [] h t = clash true refl t
witness_d (c ∷ cs) h t = go (lossy_before c cs) refl (witness_d cs h.1)
  where
    Goal : Bool → Type 0
    Goal b =
        WitnessD (c ∷ cs)
        (cond b (worst c ∷ unit_values cs) (unit_value c ∷ s_d cs))
        (cond b (unit_value c ∷ at_first non_trivial worse_of_two cs) (unit_value c ∷ x_d cs))
        (cond b (worst c ∷ at_first non_trivial better_of_two cs) (unit_value c ∷ y_d cs))

    go : (b : Bool) → lossy_before c cs ≡ b → (test_d cs ≡ false → WitnessD cs (s_d cs) (x_d cs) (y_d cs)) → Goal b
    go true e ih =
        record {
          s_valid = (worst_valid c h.0, unit_valid_v cs h.1);
          x_valid = (unit_valid1 c h.0, worse_valid_v cs h.1);
          y_valid = (worst_valid c h.0, good_valid_v cs h.1);
          x_better = head_ahead c cs (unit_value c) (worst c) (at_first non_trivial worse_of_two cs) (at_first non_trivial better_of_two cs) (unit_ahead c h.0 (and_left (lossy c) (some_non_trivial cs) e));
          y_better =
              head_level c cs (join_value c (worst c) (worst c)) (join_value c (worst c) (unit_value c)) (join_values cs (unit_values cs) (at_first non_trivial better_of_two cs)) (join_values cs (unit_values cs) (at_first non_trivial worse_of_two cs)) (worst_unit c h.0)
              ∙ rw (unit_join_values cs (at_first non_trivial better_of_two cs) (good_valid_v cs h.1), unit_join_values cs (at_first non_trivial worse_of_two cs) (worse_valid_v cs h.1))
              (good_better cs h.1 (and_right (lossy c) (some_non_trivial cs) e));
        }
    go false e ih =
        let r : WitnessD cs (s_d cs) (x_d cs) (y_d cs) = ih (rest (lossy_before c cs) (test_d cs) e t) in
        record {
          s_valid = (unit_valid1 c h.0, r.s_valid);
          x_valid = (unit_valid1 c h.0, r.x_valid);
          y_valid = (unit_valid1 c h.0, r.y_valid);
          x_better = head_level c cs (unit_value c) (unit_value c) (x_d cs) (y_d cs) refl ∙ r.x_better;
          y_better = head_level c cs (join_value c (unit_value c) (unit_value c)) (join_value c (unit_value c) (unit_value c)) (join_values cs (s_d cs) (y_d cs)) (join_values cs (s_d cs) (x_d cs)) refl ∙ r.y_better;
        }
      where
        rest : (a b : Bool) → a ≡ false → (not a && b) ≡ false → b ≡ false
        rest true b p q = clash true refl p
        rest false b p q = q

pub d_broken : (cs : List Component) → Sound cs → test_d cs ≡ false → BreaksD cs (route (s_d cs)) (route (x_d cs)) (route (y_d cs))
d_broken cs h t =
    let r : WitnessD cs (s_d cs) (x_d cs) (y_d cs) = witness_d cs h t in
    (r.s_valid, r.x_valid, r.y_valid, λ e. refute r e)
  where
    s : Weight
    s = route (s_d cs)

    x : Weight
    x = route (x_d cs)

    y : Weight
    y = route (y_d cs)

    refute : WitnessD cs (s_d cs) (x_d cs) (y_d cs) → join cs s (better_of cs x y) ≡ better_of cs (join cs s x) (join cs s y) → ⊥
    refute r e = clash (better cs (join cs s y) (join cs s x)) r.y_better (subst (λ (q : Weight). better cs (join cs s y) q ≡ false) (sym same) (irrefl cs (join cs s y)))
      where
        same : join cs s x ≡ join cs s y
        same = sym (ap (join cs s) (better_of_first cs x y (asym cs x y r.x_better))) ∙ e ∙ better_of_second cs (join cs s x) (join cs s y) r.y_better

-- ---- U

unit_best : (cs : List Component) (xs : List ℕ) → test_u cs ≡ true → ValidValues cs xs → better_values cs xs (unit_values cs) ≡ false
unit_best [] xs t v = refl
unit_best (c ∷ cs) [] t v = refl
unit_best (c ∷ cs) (x ∷ xs) t v = go (three1 c x (unit_value c)) (unit_best cs xs (and_right (not (is_gain c)) (test_u cs) t) v.1)
  where
    go : Three c x (unit_value c) → better_values cs xs (unit_values cs) ≡ false → better_values (c ∷ cs) (x ∷ xs) (unit_value c ∷ unit_values cs) ≡ false
    go (ahead p) ih = absurd (unit_first c x (not-true (is_gain c) (and_left (not (is_gain c)) (test_u cs) t)) v.0 p)
    go (level e) ih = head_level c cs x (unit_value c) xs (unit_values cs) e ∙ ih
    go (behind p) ih = head_behind c cs (unit_value c) x (unit_values cs) xs p

pub u_holds : (cs : List Component) → test_u cs ≡ true → LawU cs
u_holds cs t none v = refl
u_holds cs t (route xs) v = unit_best cs xs t v

skip_rest : (a b : Bool) → a ≡ false → (not a && b) ≡ false → b ≡ false
skip_rest true b p q = clash true refl p
skip_rest false b p q = q

one_better : (cs : List Component) → test_u cs ≡ false → better_values cs (x_u cs) (unit_values cs) ≡ true
one_better [] t = clash true refl t
one_better (c ∷ cs) t = go (is_gain c) refl (one_better cs)
  where
    go : (b : Bool) → is_gain c ≡ b → (test_u cs ≡ false → better_values cs (x_u cs) (unit_values cs) ≡ true)
        → better_values (c ∷ cs) (cond b (1 ∷ unit_values cs) (unit_value c ∷ x_u cs)) (unit_value c ∷ unit_values cs) ≡ true
    go true e ih = head_ahead c cs 1 (unit_value c) (unit_values cs) (unit_values cs) (one_ahead c e)
    go false e ih = head_level c cs (unit_value c) (unit_value c) (x_u cs) (unit_values cs) refl ∙ ih (skip_rest (is_gain c) (test_u cs) e t)

pub u_broken : (cs : List Component) → Sound cs → test_u cs ≡ false → BreaksU cs (route (x_u cs))
u_broken cs h t = (at_first_valid is_gain (λ c. 1) (λ c k e. one_valid c e) cs h, one_better cs t)

-- ---- C

cancel_v : (cs : List Component) (ss xs ys : List ℕ) → test_c cs ≡ true → ValidValues cs ss → ValidValues cs xs → ValidValues cs ys → join_values cs ss xs ≡ join_values cs ss ys → xs ≡ ys
cancel_v [] ss [] [] t u v w e = refl
cancel_v [] ss [] (y ∷ ys) t u v w e = absurd w
cancel_v [] ss (x ∷ xs) ys t u v w e = absurd v
cancel_v (c ∷ cs) [] xs ys t u v w e = absurd u
cancel_v (c ∷ cs) (s ∷ ss) [] ys t u v w e = absurd v
cancel_v (c ∷ cs) (s ∷ ss) (x ∷ xs) [] t u v w e = absurd w
cancel_v (c ∷ cs) (s ∷ ss) (x ∷ xs) (y ∷ ys) t u v w e =
    ap₂ ◌∷◌ (cancel1 c s x y (not-true (lossy c) (and_left (not (lossy c)) (test_c cs) t)) v.0 w.0 (cc))
    (cancel_v cs ss xs ys (and_right (not (lossy c)) (test_c cs) t) u.1 v.1 w.1 (cc))

pub c_holds : (cs : List Component) → test_c cs ≡ true → LawC cs
c_holds cs t none x y u v w e r = absurd r
c_holds cs t (route ss) none y u v w e r = absurd r
c_holds cs t (route ss) (route xs) none u v w e r = absurd (subst IsRoute e r)
c_holds cs t (route ss) (route xs) (route ys) u v w e r = ap route (cancel_v cs ss xs ys t u v w (cc))

s_c_valid : (cs : List Component) → Sound cs → ValidValues cs (s_c cs)
s_c_valid cs h = at_first_valid lossy worst (λ c k e. worst_valid c k) cs h

-- the witness joined with itself is the witness joined with the unit
s_c_same : (cs : List Component) → Sound cs → join_values cs (s_c cs) (unit_values cs) ≡ join_values cs (s_c cs) (s_c cs)
s_c_same [] h = refl
s_c_same (c ∷ cs) h = go (lossy c) (s_c_same cs h.1)
  where
    go : (b : Bool) → join_values cs (s_c cs) (unit_values cs) ≡ join_values cs (s_c cs) (s_c cs)
        → join_values (c ∷ cs) (cond b (worst c ∷ unit_values cs) (unit_value c ∷ s_c cs)) (unit_value c ∷ unit_values cs)
        ≡ join_values (c ∷ cs) (cond b (worst c ∷ unit_values cs) (unit_value c ∷ s_c cs)) (cond b (worst c ∷ unit_values cs) (unit_value c ∷ s_c cs))
    go true ih = ap (λ (k : ℕ). k ∷ join_values cs (unit_values cs) (unit_values cs)) (sym (worst_unit c h.0))
    go false ih = ap (λ (l : List ℕ). join_value c (unit_value c) (unit_value c) ∷ l) ih

s_c_worse : (cs : List Component) → Sound cs → test_c cs ≡ false → better_values cs (unit_values cs) (s_c cs) ≡ true
s_c_worse [] h t = clash true refl t
s_c_worse (c ∷ cs) h t = go (lossy c) refl (s_c_worse cs h.1)
  where
    go : (b : Bool) → lossy c ≡ b → (test_c cs ≡ false → better_values cs (unit_values cs) (s_c cs) ≡ true)
        → better_values (c ∷ cs) (unit_value c ∷ unit_values cs) (cond b (worst c ∷ unit_values cs) (unit_value c ∷ s_c cs)) ≡ true
    go true e ih = head_ahead c cs (unit_value c) (worst c) (unit_values cs) (unit_values cs) (unit_ahead c h.0 e)
    go false e ih = head_level c cs (unit_value c) (unit_value c) (unit_values cs) (s_c cs) refl ∙ ih (skip_rest (lossy c) (test_c cs) e t)

pub c_broken : (cs : List Component) → Sound cs → test_c cs ≡ false → BreaksC cs (route (s_c cs)) (unit cs) (route (s_c cs))
c_broken cs h t = (
  s_c_valid cs h,
  unit_valid_v cs h,
  s_c_valid cs h,
  ap route (s_c_same cs h),
  tt,
  λ e. clash (better cs (unit cs) (route (s_c cs))) (s_c_worse cs h t) (subst (λ (q : Weight). better cs (unit cs) q ≡ false) e (irrefl cs (unit cs))),
)

-- ---- the report is exact: a law is reported held exactly when it holds

pub d_exact : (cs : List Component) → Sound cs → (test_d cs ≡ true) ↔ LawD cs
d_exact cs h = (d_holds cs, λ law. go law (test_d cs) refl)
  where
    go : LawD cs → (b : Bool) → test_d cs ≡ b → b ≡ true
    go law true e = refl
    go law false e = let r : BreaksD cs (route (s_d cs)) (route (x_d cs)) (route (y_d cs)) = d_broken cs h e in
        absurd (r.3 (law (route (s_d cs)) (route (x_d cs)) (route (y_d cs)) r.0 r.1 r.2))

pub u_exact : (cs : List Component) → Sound cs → (test_u cs ≡ true) ↔ LawU cs
u_exact cs h = (u_holds cs, λ law. go law (test_u cs) refl)
  where
    go : LawU cs → (b : Bool) → test_u cs ≡ b → b ≡ true
    go law true e = refl
    go law false e = let r : BreaksU cs (route (x_u cs)) = u_broken cs h e in
        clash (better cs (route (x_u cs)) (unit cs)) r.1 (law (route (x_u cs)) r.0)

pub c_exact : (cs : List Component) → Sound cs → (test_c cs ≡ true) ↔ LawC cs
c_exact cs h = (c_holds cs, λ law. go law (test_c cs) refl)
  where
    go : LawC cs → (b : Bool) → test_c cs ≡ b → b ≡ true
    go law true e = refl
    go law false e = let r : BreaksC cs (route (s_c cs)) (unit cs) (route (s_c cs)) = c_broken cs h e in
        absurd (r.5 (law (route (s_c cs)) (unit cs) (route (s_c cs)) r.0 r.1 r.2 r.3 r.4))
