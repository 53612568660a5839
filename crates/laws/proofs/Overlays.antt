-- The witnesses and tests as the code finds them by flags are those of the laws, for any number of components.
use Prim.Native.Nat.{ℕ}
use mathlib.Core.Path.{◌≡◌, refl, sym, ap, ap₂, ◌∙◌}
use mathlib.Core.Bool.{Bool, true, false, not, cond, ◌&&◌, ◌||◌}
use mathlib.Core.List.{List, [], ◌∷◌, map}
use Rattle.weights.specs.declared.Component.{Component}
use Rattle.weights.specs.Weights.{unit_value, unit_values}
use Rattle.weights.specs.Laws.{lossy, is_gain, non_trivial, some_non_trivial, lossy_before, test_d, test_u, test_c, worst, worse_of_two, better_of_two, at_first, s_d, x_d, y_d}
use Rattle.laws.specs.Flags.{some_flag, over_at, before_flag, after_flag}

abbrev break_flags : List Component → List Bool
break_flags cs = before_flag (map lossy cs) (map non_trivial cs)

abbrev later_flags : List Component → List Bool
later_flags cs = after_flag (break_flags cs) (map non_trivial cs)

some_non_trivial_lem : (cs : List Component) → some_flag (map non_trivial cs) ≡ some_non_trivial cs
some_non_trivial_lem [] = refl
some_non_trivial_lem (c ∷ cs) = ap (λ (b : Bool). non_trivial c || b) (some_non_trivial_lem cs)

before_flag_lem : (c : Component) (cs : List Component) → (lossy c && some_flag (map non_trivial cs)) ≡ lossy_before c cs
before_flag_lem c cs = ap (λ (b : Bool). lossy c && b) (some_non_trivial_lem cs)

pub first_over : (p : Component → Bool) (f : Component → ℕ) (cs : List Component) → over_at (map p cs) (map f cs) (unit_values cs) ≡ at_first p f cs
first_over p f [] = refl
first_over p f (c ∷ cs) = ap (λ (l : List ℕ). cond (p c) (f c ∷ unit_values cs) (unit_value c ∷ l)) (first_over p f cs)

pub s_d_over : (cs : List Component) → over_at (before_flag (map lossy cs) (map non_trivial cs)) (map worst cs) (unit_values cs) ≡ s_d cs
s_d_over [] = refl
s_d_over (c ∷ cs) = ap₂ (λ (b : Bool) (l : List ℕ). cond b (worst c ∷ unit_values cs) (unit_value c ∷ l)) (before_flag_lem c cs) (s_d_over cs)

-- what lies over, where the flag is a choice
over_cond : (b : Bool) (u : ℕ) (fs gs : List Bool) (vs us : List ℕ) → u ∷ over_at (cond b fs gs) vs us ≡ cond b (u ∷ over_at fs vs us) (u ∷ over_at gs vs us)
over_cond true u fs gs vs us = refl
over_cond false u fs gs vs us = refl

pub x_d_over : (cs : List Component) → over_at (after_flag (before_flag (map lossy cs) (map non_trivial cs)) (map non_trivial cs)) (map worse_of_two cs) (unit_values cs) ≡ x_d cs
x_d_over [] = refl
x_d_over (c ∷ cs) =
    over_cond (lossy c && some_flag (map non_trivial cs)) (unit_value c) (map non_trivial cs) (later_flags cs) (map worse_of_two cs) (unit_values cs)
    ∙ rw (before_flag_lem c cs, first_over non_trivial worse_of_two cs, x_d_over cs)

pub y_d_over : (cs : List Component) → over_at (after_flag (before_flag (map lossy cs) (map non_trivial cs)) (map non_trivial cs)) (map better_of_two cs) (s_d cs) ≡ y_d cs
y_d_over [] = refl
y_d_over (c ∷ cs) = rw (before_flag_lem c cs) (go (lossy_before c cs) (y_d_over cs))
  where
    go : (b : Bool) → over_at (later_flags cs) (map better_of_two cs) (s_d cs) ≡ y_d cs
        → over_at (false ∷ cond b (map non_trivial cs) (later_flags cs)) (better_of_two c ∷ map better_of_two cs) (cond b (worst c ∷ unit_values cs) (unit_value c ∷ s_d cs))
        ≡ cond b (worst c ∷ at_first non_trivial better_of_two cs) (unit_value c ∷ y_d cs)
    go true ih = ap (λ (l : List ℕ). worst c ∷ l) (first_over non_trivial better_of_two cs)
    go false ih = ap (λ (l : List ℕ). unit_value c ∷ l) ih

-- ---- the tests

not_or : (a b : Bool) → not (a || b) ≡ (not a && not b)
not_or true b = refl
not_or false b = refl

pub test_d_any : (cs : List Component) → not (some_flag (before_flag (map lossy cs) (map non_trivial cs))) ≡ test_d cs
test_d_any [] = refl
test_d_any (c ∷ cs) = not_or (lossy c && some_flag (map non_trivial cs)) (some_flag (break_flags cs)) ∙ ap₂ (λ (a b : Bool). not a && b) (before_flag_lem c cs) (test_d_any cs)

pub test_u_any : (cs : List Component) → not (some_flag (map is_gain cs)) ≡ test_u cs
test_u_any [] = refl
test_u_any (c ∷ cs) = not_or (is_gain c) (some_flag (map is_gain cs)) ∙ ap (λ (b : Bool). not (is_gain c) && b) (test_u_any cs)

pub test_c_any : (cs : List Component) → not (some_flag (map lossy cs)) ≡ test_c cs
test_c_any [] = refl
test_c_any (c ∷ cs) = not_or (lossy c) (some_flag (map lossy cs)) ∙ ap (λ (b : Bool). not (lossy c) && b) (test_c_any cs)

module _ (cs : List Component) {l f b : List Bool} {t : Bool} (el : l ≡ map lossy cs) (ef : f ≡ map non_trivial cs) (eb : b ≡ before_flag l f) (et : t ≡ some_flag b) where
  pub test_d_lem : test_d cs ≡ not t
  test_d_lem = rw (et, eb, el, ef) (sym (test_d_any cs))

module _ (cs : List Component) {g : List Bool} {t : Bool} (eg : g ≡ map is_gain cs) (et : t ≡ some_flag g) where
  pub test_u_lem : test_u cs ≡ not t
  test_u_lem = rw (et, eg) (sym (test_u_any cs))

module _ (cs : List Component) {l : List Bool} {t : Bool} (el : l ≡ map lossy cs) (et : t ≡ some_flag l) where
  pub test_c_lem : test_c cs ≡ not t
  test_c_lem = rw (et, el) (sym (test_c_any cs))

pub cond_same : {A : Type 0} (b : Bool) (x : A) → cond b x x ≡ x
cond_same true x = refl
cond_same false x = refl
