-- Class 0 in the unused places changes nothing: order, join, unit, the laws' tests and their witnesses are those of the
-- language's components, with words 0 after the values.
use Prim.Native.Nat.{ℕ, zero, suc, ◌≤◌}
use mathlib.Core.Path.{◌≡◌, refl, sym, ap, ap₂}
use mathlib.Core.Bool.{Bool, true, false, not, cond, ◌&&◌, ◌||◌}
use mathlib.Core.List.{List, [], ◌∷◌}
use native.Mathlib.Omega.{arith}
use lib.Dec.{eqb}
use lib.ListN.{length}
use Rattle.algebra.proofs.Embedding.{Embedding}
use Rattle.weights.specs.declared.Component.{Component}
use Rattle.weights.specs.declared.Component.TheVariants.{Class}
use Rattle.weights.specs.Weights.{Weight, none, route, Valid, ValidValues, Sound, better_value, better_values, join_value, join_values, unit_value, unit_values, better, join, language}
use Rattle.weights.specs.Laws.{lossy, is_gain, non_trivial, some_non_trivial, lossy_before, test_d, test_u, test_c, worst, worse_of_two, better_of_two, at_first, s_d, x_d, y_d, x_u, s_c}
use Rattle.weights.specs.Languages.{padded}
use Rattle.weights.specs.Words.{filled, words}
use Rattle.weights.proofs.Ordering.{irrefl_v, join_valid, unit_valid}

-- ---- order, join and unit

pub better_pad : (n : ℕ) (cs : List Component) (xs ys : List ℕ) → length cs ≤ n → ValidValues cs xs → ValidValues cs ys
    → better_values (padded n cs) (filled n xs) (filled n ys) ≡ better_values cs xs ys
better_pad n [] [] [] h v w = irrefl_v (padded n []) (filled n [])
better_pad n [] [] (y ∷ ys) h v w = absurd w
better_pad n [] (x ∷ xs) ys h v w = absurd v
better_pad n (c ∷ cs) [] ys h v w = absurd v
better_pad n (c ∷ cs) (x ∷ xs) [] h v w = absurd w
better_pad zero (c ∷ cs) (x ∷ xs) (y ∷ ys) h v w = absurd (omega arith)
better_pad (suc n) (c ∷ cs) (x ∷ xs) (y ∷ ys) h v w = ap (λ (b : Bool). cond (eqb x y) b (better_value c x y)) (better_pad n cs xs ys (omega arith) v.1 w.1)

none_join : (n : ℕ) → join_values (padded n []) (filled n []) (filled n []) ≡ filled n []
none_join zero = refl
none_join (suc n) = ap (0 ∷◌) (none_join n)

pub join_pad : (n : ℕ) (cs : List Component) (xs ys : List ℕ) → length cs ≤ n → ValidValues cs xs → ValidValues cs ys
    → filled n (join_values cs xs ys) ≡ join_values (padded n cs) (filled n xs) (filled n ys)
join_pad n [] [] [] h v w = sym (none_join n)
join_pad n [] [] (y ∷ ys) h v w = absurd w
join_pad n [] (x ∷ xs) ys h v w = absurd v
join_pad n (c ∷ cs) [] ys h v w = absurd v
join_pad n (c ∷ cs) (x ∷ xs) [] h v w = absurd w
join_pad zero (c ∷ cs) (x ∷ xs) (y ∷ ys) h v w = absurd (omega arith)
join_pad (suc n) (c ∷ cs) (x ∷ xs) (y ∷ ys) h v w = ap (join_value c x y ∷◌) (join_pad n cs xs ys (omega arith) v.1 w.1)

-- no word is lost: the components fit the places
pub unit_pad : (n : ℕ) (cs : List Component) → length cs ≤ n → unit_values (padded n cs) ≡ filled n (unit_values cs)
unit_pad zero [] h = refl
unit_pad zero (c ∷ cs) h = absurd (omega arith)
unit_pad (suc n) [] h = ap (0 ∷◌) (unit_pad n [] (omega arith))
unit_pad (suc n) (c ∷ cs) h = ap (unit_value c ∷◌) (unit_pad n cs (omega arith))

-- ---- the tests

some_pad : (n : ℕ) (cs : List Component) → length cs ≤ n → some_non_trivial (padded n cs) ≡ some_non_trivial cs
some_pad zero [] h = refl
some_pad zero (c ∷ cs) h = absurd (omega arith)
some_pad (suc n) [] h = some_pad n [] (omega arith)
some_pad (suc n) (c ∷ cs) h = ap (λ (b : Bool). non_trivial c || b) (some_pad n cs (omega arith))

pub test_d_pad : (n : ℕ) (cs : List Component) → length cs ≤ n → test_d (padded n cs) ≡ test_d cs
test_d_pad zero [] h = refl
test_d_pad zero (c ∷ cs) h = absurd (omega arith)
test_d_pad (suc n) [] h = test_d_pad n [] (omega arith)
test_d_pad (suc n) (c ∷ cs) h = ap₂ (λ (a b : Bool). not (lossy c && a) && b) (some_pad n cs (omega arith)) (test_d_pad n cs (omega arith))

pub test_u_pad : (n : ℕ) (cs : List Component) → length cs ≤ n → test_u (padded n cs) ≡ test_u cs
test_u_pad zero [] h = refl
test_u_pad zero (c ∷ cs) h = absurd (omega arith)
test_u_pad (suc n) [] h = test_u_pad n [] (omega arith)
test_u_pad (suc n) (c ∷ cs) h = ap (λ (b : Bool). not (is_gain c) && b) (test_u_pad n cs (omega arith))

pub test_c_pad : (n : ℕ) (cs : List Component) → length cs ≤ n → test_c (padded n cs) ≡ test_c cs
test_c_pad zero [] h = refl
test_c_pad zero (c ∷ cs) h = absurd (omega arith)
test_c_pad (suc n) [] h = test_c_pad n [] (omega arith)
test_c_pad (suc n) (c ∷ cs) h = ap (λ (b : Bool). not (lossy c) && b) (test_c_pad n cs (omega arith))

-- ---- the witnesses

-- the same choice, of the same value and words that are filled up alike
choose : (n : ℕ) (a b : Bool) (x y : ℕ) (us us' vs vs' : List ℕ) → a ≡ b → us ≡ filled n us' → vs ≡ filled n vs'
    → cond a (x ∷ us) (y ∷ vs) ≡ filled (suc n) (cond b (x ∷ us') (y ∷ vs'))
choose n true b x y us us' vs vs' p q r = rw (← p) (ap (x ∷◌) q)
choose n false b x y us us' vs vs' p q r = rw (← p) (ap (y ∷◌) r)

pub first_pad : (p : Component → Bool) (f : Component → ℕ) → p (Class 0) ≡ false → (n : ℕ) (cs : List Component) → length cs ≤ n → at_first p f (padded n cs) ≡ filled n (at_first p f cs)
first_pad p f e zero [] h = refl
first_pad p f e zero (c ∷ cs) h = absurd (omega arith)
first_pad p f e (suc n) [] h = rw e (ap (0 ∷◌) (first_pad p f e n [] (omega arith)))
first_pad p f e (suc n) (c ∷ cs) h = choose n (p c) (p c) (f c) (unit_value c) _ (unit_values cs) _ (at_first p f cs) refl (unit_pad n cs (omega arith)) (first_pad p f e n cs (omega arith))

before_pad : (n : ℕ) (c : Component) (cs : List Component) → length cs ≤ n → lossy_before c (padded n cs) ≡ lossy_before c cs
before_pad n c cs h = ap (λ (b : Bool). lossy c && b) (some_pad n cs h)

pub s_d_pad : (n : ℕ) (cs : List Component) → length cs ≤ n → s_d (padded n cs) ≡ filled n (s_d cs)
s_d_pad zero [] h = refl
s_d_pad zero (c ∷ cs) h = absurd (omega arith)
s_d_pad (suc n) [] h = ap (0 ∷◌) (s_d_pad n [] (omega arith))
s_d_pad (suc n) (c ∷ cs) h = choose n (lossy_before c (padded n cs)) (lossy_before c cs) (worst c) (unit_value c) _ (unit_values cs) _ (s_d cs) (before_pad n c cs (omega arith)) (unit_pad n cs (omega arith)) (s_d_pad n cs (omega arith))

pub x_d_pad : (n : ℕ) (cs : List Component) → length cs ≤ n → x_d (padded n cs) ≡ filled n (x_d cs)
x_d_pad zero [] h = refl
x_d_pad zero (c ∷ cs) h = absurd (omega arith)
x_d_pad (suc n) [] h = ap (0 ∷◌) (x_d_pad n [] (omega arith))
x_d_pad (suc n) (c ∷ cs) h = choose n (lossy_before c (padded n cs)) (lossy_before c cs) (unit_value c) (unit_value c) _ (at_first non_trivial worse_of_two cs) _ (x_d cs) (before_pad n c cs (omega arith)) (first_pad non_trivial worse_of_two refl n cs (omega arith)) (x_d_pad n cs (omega arith))

pub y_d_pad : (n : ℕ) (cs : List Component) → length cs ≤ n → y_d (padded n cs) ≡ filled n (y_d cs)
y_d_pad zero [] h = refl
y_d_pad zero (c ∷ cs) h = absurd (omega arith)
y_d_pad (suc n) [] h = ap (0 ∷◌) (y_d_pad n [] (omega arith))
y_d_pad (suc n) (c ∷ cs) h = choose n (lossy_before c (padded n cs)) (lossy_before c cs) (worst c) (unit_value c) _ (at_first non_trivial better_of_two cs) _ (y_d cs) (before_pad n c cs (omega arith)) (first_pad non_trivial better_of_two refl n cs (omega arith)) (y_d_pad n cs (omega arith))

pub x_u_pad : (n : ℕ) (cs : List Component) → length cs ≤ n → x_u (padded n cs) ≡ filled n (x_u cs)
x_u_pad n cs h = first_pad is_gain (λ c. 1) refl n cs h

pub s_c_pad : (n : ℕ) (cs : List Component) → length cs ≤ n → s_c (padded n cs) ≡ filled n (s_c cs)
s_c_pad n cs h = first_pad lossy worst refl n cs h

pub sound_pad : (n : ℕ) (cs : List Component) → Sound cs → Sound (padded n cs)
sound_pad zero cs s = tt
sound_pad (suc n) [] s = (tt, sound_pad n [] s)
sound_pad (suc n) (c ∷ cs) s = (s.0, sound_pad n cs s.1)

pub sound_unpad : (n : ℕ) (cs : List Component) → length cs ≤ n → Sound (padded n cs) → Sound cs
sound_unpad n [] h s = tt
sound_unpad zero (c ∷ cs) h s = absurd (omega arith)
sound_unpad (suc n) (c ∷ cs) h s = (s.0, sound_unpad n cs (omega arith) s.1)

-- ---- the padded language holds the language

-- a weight with words 0 after its values
abbrev pub pad_weight : ℕ → Weight → Weight
pad_weight n none = none
pad_weight n (route xs) = route (filled n xs)

module _ (n : ℕ) (cs : List Component) (h : length cs ≤ n) where
  pad_joined : (x y : Weight) → Valid cs x → Valid cs y → pad_weight n (join cs x y) ≡ join (padded n cs) (pad_weight n x) (pad_weight n y)
  pad_joined none y v w = refl
  pad_joined (route xs) none v w = refl
  pad_joined (route xs) (route ys) v w = ap route (join_pad n cs xs ys h v w)

  pad_better : (x y : Weight) → Valid cs x → Valid cs y → better (padded n cs) (pad_weight n x) (pad_weight n y) ≡ better cs x y
  pad_better none y v w = refl
  pad_better (route xs) none v w = refl
  pad_better (route xs) (route ys) v w = better_pad n cs xs ys h v w

  pub padding : Sound cs → Embedding (language cs) (language (padded n cs)) (Valid cs) (pad_weight n)
  padding s = record {
    unit_in = unit_valid cs s;
    none_in = tt;
    join_in = join_valid cs;
    of_unit = ap route (sym (unit_pad n cs h));
    of_none = refl;
    of_join = pad_joined;
    of_better = pad_better;
  }

-- ---- the words are the same

pub filled_twice : (n : ℕ) (xs : List ℕ) → filled n (filled n xs) ≡ filled n xs
filled_twice zero xs = refl
filled_twice (suc n) [] = ap (0 ∷◌) (filled_twice n [])
filled_twice (suc n) (x ∷ xs) = ap (x ∷◌) (filled_twice n xs)

pub words_pad : (w : Weight) → words (pad_weight 4 w) ≡ words w
unfolding words
words_pad none = refl
words_pad (route xs) = filled_twice 4 xs
