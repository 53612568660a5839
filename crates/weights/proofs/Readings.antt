-- Reading in the places is reading in the language: the same patterns are malformed, and a weight read in the places is the
-- language's with words 0 after it. What is read is valid, and reads back.
use Prim.Native.Nat.{ℕ, zero, suc, ◌≤◌, ◌<◌}
use mathlib.Core.Path.{◌≡◌, refl, sym, ap, ap₂, ◌∙◌}
use mathlib.Core.Bool.{Bool, true, false, cond, ◌&&◌, and-eq-true_iff}
use mathlib.Core.List.{List, [], ◌∷◌}
use native.Mathlib.Omega.{arith}
use lib.Dec.{leb, eqb}
use lib.ListN.{length, take, replicate}
use lib.Seq.{take_all}
use borrow.Author.Tests.{leb-true, leb-false, le-leb, eqb-true, eq-eqb, ne_eqb}
use Rattle.weights.specs.declared.Component.{Component}
use Rattle.weights.specs.declared.Component.TheVariants.{Dist, Width, Class, Gain}
use Rattle.weights.specs.Sizes.{weight_words, ones}
use Rattle.weights.specs.Weights.{Weight, none, route, Valid, ValidValue, ValidValues}
use Rattle.weights.specs.Languages.{padded}
use Rattle.weights.specs.Written.{NotOnes, SumsUpTo, WeightUpTo, Written}
use Rattle.weights.specs.Words.{filled, words, all_are, in_range, fits, good, malformed, reading, is_good, decoded}
use Rattle.weights.proofs.Ordering.{clash}
use Rattle.weights.proofs.Padding.{pad_weight}

-- ---- the padded language takes the same words

zero_test : (x : ℕ) → leb x 0 ≡ eqb x 0
zero_test x = go (leb x 0) refl
  where
    go : (b : Bool) → leb x 0 ≡ b → b ≡ eqb x 0
    go true e = sym (eq-eqb x 0 (omega (arith, leb-true x 0 e)))
    go false e = let h : 0 < x = leb-false x 0 e in sym (ne_eqb x 0 (λ q. omega arith))

pub fits_pad : (cap n : ℕ) (cs : List Component) (ws : List ℕ) → length cs ≤ n → length ws ≡ n → fits cap (padded n cs) ws ≡ fits cap cs ws
fits_pad cap zero [] ws h k = refl
fits_pad cap zero (c ∷ cs) ws h k = absurd (omega arith)
fits_pad cap (suc n) cs [] h k = absurd (omega arith)
fits_pad cap (suc n) [] (x ∷ ws) h k = ap₂ ◌&&◌ (zero_test x) (fits_pad cap n [] ws (omega arith) (omega arith))
fits_pad cap (suc n) (c ∷ cs) (x ∷ ws) h k = ap (λ (b : Bool). in_range cap c x && b) (fits_pad cap n cs ws (omega arith) (omega arith))

zeros_filled : (n : ℕ) (ws : List ℕ) → length ws ≡ n → all_are 0 ws ≡ true → filled n [] ≡ ws
zeros_filled zero [] h e = refl
zeros_filled zero (x ∷ ws) h e = absurd (omega arith)
zeros_filled (suc n) [] h e = absurd (omega arith)
zeros_filled (suc n) (x ∷ ws) h e = let p = (and-eq-true_iff (eqb x 0) (all_are 0 ws)).0 e in ap₂ ◌∷◌ (sym (eqb-true x 0 p.0)) (zeros_filled n ws (omega arith) p.1)

-- the words are the values with words 0 after them
pub fits_filled : (cap n : ℕ) (cs : List Component) (ws : List ℕ) → length ws ≡ n → fits cap cs ws ≡ true → filled n (take (length cs) ws) ≡ ws
fits_filled cap n [] ws h e = zeros_filled n ws h e
fits_filled cap n (c ∷ cs) [] h e = clash false e refl
fits_filled cap zero (c ∷ cs) (x ∷ ws) h e = absurd (omega arith)
fits_filled cap (suc n) (c ∷ cs) (x ∷ ws) h e = ap (x ∷◌) (fits_filled cap n cs ws (omega arith) ((and-eq-true_iff (in_range cap c x) (fits cap cs ws)).0 e).1)

-- ---- what is read is valid

pub in_range_valid : (cap : ℕ) (c : Component) (v : ℕ) → in_range cap c v ≡ true → ValidValue c v
in_range_valid cap Dist v e = tt
in_range_valid cap (Width w) v e = let p = (and-eq-true_iff (leb 1 v) (leb v w)).0 e in (leb-true 1 v p.0, leb-true v w p.1)
in_range_valid cap (Class k) v e = leb-true v k e
in_range_valid cap Gain v e = tt

pub fits_valid : (cap : ℕ) (cs : List Component) (ws : List ℕ) → fits cap cs ws ≡ true → ValidValues cs (take (length cs) ws)
fits_valid cap [] ws e = tt
fits_valid cap (c ∷ cs) [] e = clash false e refl
fits_valid cap (c ∷ cs) (x ∷ ws) e = let p = (and-eq-true_iff (in_range cap c x) (fits cap cs ws)).0 e in (in_range_valid cap c x p.0, fits_valid cap cs ws p.1)

-- ---- readings

-- the words are a weight of the language
pub data Well (cap : ℕ) (cs : List Component) (ws : List ℕ) : Type 0 where
  no_route : all_are ones ws ≡ true → Well cap cs ws
  values : all_are ones ws ≡ false → fits cap cs ws ≡ true → Well cap cs ws

pub well_read : (cap : ℕ) (cs : List Component) (ws : List ℕ) → is_good (reading cap cs ws) ≡ true → Well cap cs ws
well_read cap cs ws = go (all_are ones ws) (fits cap cs ws) refl refl
  where
    go : (a b : Bool) → all_are ones ws ≡ a → fits cap cs ws ≡ b → is_good (cond a (good none) (cond b (good (route (take (length cs) ws))) malformed)) ≡ true → Well cap cs ws
    go true b p q e = no_route p
    go false true p q e = values p q
    go false false p q e = clash false e refl

pub well_valid : (cap : ℕ) (cs : List Component) (ws : List ℕ) → Well cap cs ws → Valid cs (decoded (length cs) ws)
well_valid cap cs ws (no_route e) = rw e tt
well_valid cap cs ws (values e f) = rw e (fits_valid cap cs ws f)

-- a weight read in the places is the language's with words 0 after it
pub decoded_pad : (cap n : ℕ) (cs : List Component) (ws : List ℕ) → length ws ≡ n → Well cap cs ws → pad_weight n (decoded (length cs) ws) ≡ decoded n ws
decoded_pad cap n cs ws h (no_route e) = rw e
decoded_pad cap n cs ws h (values e f) = rw e (ap route (fits_filled cap n cs ws h f ∙ sym (take_all n ws (omega arith))))

-- the same words are well formed in the places and in the language
pub good_pad : (cap n : ℕ) (cs : List Component) (ws : List ℕ) → length cs ≤ n → length ws ≡ n → is_good (reading cap (padded n cs) ws) ≡ is_good (reading cap cs ws)
good_pad cap n cs ws h k = rw (fits_pad cap n cs ws h k) (go (all_are ones ws) (fits cap cs ws))
  where
    go : (a b : Bool) → is_good (cond a (good none) (cond b (good (route (take (length (padded n cs)) ws))) malformed)) ≡ is_good (cond a (good none) (cond b (good (route (take (length cs) ws))) malformed))
    go true b = refl
    go false true = refl
    go false false = refl

-- ---- what is written reads back

-- so many words
pub length_filled : (n : ℕ) (xs : List ℕ) → length (filled n xs) ≡ n
length_filled zero xs = refl
length_filled (suc n) [] = ap suc (length_filled n [])
length_filled (suc n) (x ∷ xs) = ap suc (length_filled n xs)

-- .. the first of which are the values
pub take_filled : (n : ℕ) (cs : List Component) (xs : List ℕ) → length cs ≤ n → ValidValues cs xs → take (length cs) (filled n xs) ≡ xs
take_filled n [] [] h v = refl
take_filled n [] (x ∷ xs) h v = absurd v
take_filled n (c ∷ cs) [] h v = absurd v
take_filled zero (c ∷ cs) (x ∷ xs) h v = absurd (omega arith)
take_filled (suc n) (c ∷ cs) (x ∷ xs) h v = ap (x ∷◌) (take_filled n cs xs (omega arith) v.1)

not_ones : (xs : List ℕ) → NotOnes (route xs) → all_are ones (filled weight_words xs) ≡ false
not_ones [] h = refl
not_ones (x ∷ xs) h = rw (ne_eqb x ones (λ e. omega arith))

pub reads_back : (cs : List Component) (w : Weight) → length cs ≤ weight_words → Valid cs w → NotOnes w → decoded (length cs) (words w) ≡ w
unfolding words
reads_back cs none h v k = refl
reads_back cs (route xs) h v k = rw (not_ones xs k) (ap route (take_filled weight_words cs xs h v))

-- ---- exactly the words of a weight are taken for it

fits_sums : (cap : ℕ) (cs : List Component) (ws : List ℕ) → fits cap cs ws ≡ true → SumsUpTo cap cs (take (length cs) ws)
fits_sums cap [] ws e = tt
fits_sums cap (c ∷ cs) [] e = clash false e refl
fits_sums cap (Dist ∷ cs) (x ∷ ws) e = let p = (and-eq-true_iff (leb x cap) (fits cap cs ws)).0 e in (leb-true x cap p.0, fits_sums cap cs ws p.1)
fits_sums cap (Width w ∷ cs) (x ∷ ws) e = fits_sums cap cs ws ((and-eq-true_iff (in_range cap (Width w) x) (fits cap cs ws)).0 e).1
fits_sums cap (Class k ∷ cs) (x ∷ ws) e = fits_sums cap cs ws ((and-eq-true_iff (in_range cap (Class k) x) (fits cap cs ws)).0 e).1
fits_sums cap (Gain ∷ cs) (x ∷ ws) e = let p = (and-eq-true_iff (leb x cap) (fits cap cs ws)).0 e in (leb-true x cap p.0, fits_sums cap cs ws p.1)

zeros_are : (n : ℕ) → all_are 0 (filled n []) ≡ true
zeros_are zero = refl
zeros_are (suc n) = zeros_are n

filled_fits : (cap n : ℕ) (cs : List Component) (xs : List ℕ) → length cs ≤ n → ValidValues cs xs → SumsUpTo cap cs xs → fits cap cs (filled n xs) ≡ true
filled_fits cap n [] [] h v u = zeros_are n
filled_fits cap n [] (x ∷ xs) h v u = absurd v
filled_fits cap n (c ∷ cs) [] h v u = absurd v
filled_fits cap zero (c ∷ cs) (x ∷ xs) h v u = absurd (omega arith)
filled_fits cap (suc n) (Dist ∷ cs) (x ∷ xs) h v u = rw (le-leb x cap u.0) (filled_fits cap n cs xs (omega arith) v.1 u.1)
filled_fits cap (suc n) (Width w ∷ cs) (x ∷ xs) h v u = rw (le-leb 1 x v.0.0, le-leb x w v.0.1) (filled_fits cap n cs xs (omega arith) v.1 u)
filled_fits cap (suc n) (Class k ∷ cs) (x ∷ xs) h v u = rw (le-leb x k v.0) (filled_fits cap n cs xs (omega arith) v.1 u)
filled_fits cap (suc n) (Gain ∷ cs) (x ∷ xs) h v u = rw (le-leb x cap u.0) (filled_fits cap n cs xs (omega arith) v.1 u.1)

-- the words of a weight are read as that weight
pub reads_words : (cap : ℕ) (cs : List Component) (w : Weight) → length cs ≤ weight_words → Written cap cs w → reading cap cs (words w) ≡ good w
unfolding words
reads_words cap cs none h o = refl
reads_words cap cs (route xs) h o = rw (not_ones xs o.apart, filled_fits cap weight_words cs xs h o.valid o.sums) (ap (λ (l : List ℕ). good (route l)) (take_filled weight_words cs xs h o.valid))

ones_words : (n : ℕ) (ws : List ℕ) → length ws ≡ n → all_are ones ws ≡ true → ws ≡ replicate n ones
ones_words zero [] h e = refl
ones_words zero (x ∷ ws) h e = absurd (omega arith)
ones_words (suc n) [] h e = absurd (omega arith)
ones_words (suc n) (x ∷ ws) h e = let p = (and-eq-true_iff (eqb x ones) (all_are ones ws)).0 e in ap₂ ◌∷◌ (eqb-true x ones p.0) (ones_words n ws (omega arith) p.1)

pub good_one : {v w : Weight} → good v ≡ good w → v ≡ w
good_one e = cc

-- .. and words that are read as a weight are its words, and it is a weight of the language with sums at most cap
pub words_reads : (cap : ℕ) (cs : List Component) (ws : List ℕ) (w : Weight) → length ws ≡ weight_words → reading cap cs ws ≡ good w → (ws ≡ words w) × Valid cs w × WeightUpTo cap cs w
unfolding words
words_reads cap cs ws w h e = go (well_read cap cs ws (rw e))
  where
    go : Well cap cs ws → (ws ≡ words w) × Valid cs w × WeightUpTo cap cs w
    go (no_route p) = let q : none ≡ w = good_one (sym (rw p) ∙ e) in rw (← q) (ones_words weight_words ws h p, tt, tt)
    go (values p f) = let q : route (take (length cs) ws) ≡ w = good_one (sym (rw (p, f)) ∙ e) in rw (← q) (sym (fits_filled cap weight_words cs ws h f), fits_valid cap cs ws f, fits_sums cap cs ws f)
