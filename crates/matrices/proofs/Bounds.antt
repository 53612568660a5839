-- How large values are, and what is read back: entries of a well-formed buffer are weights of the language, their values are
-- small enough to be joined, and what a row step works out stands in words.
use mathlib.Core.Path.{◌≡◌, refl, ap, ap₂, subst, ◌∙◌}
use mathlib.Core.List.{List, [], ◌∷◌}
use mathlib.Core.Bool.{Bool, true, false, cond, ◌&&◌, false≢true, and-eq-true_iff}
use Prim.Native.Nat.{ℕ, zero, suc, ◌+◌, ◌≤◌, ◌<◌}
use native.Mathlib.Omega.{arith}
use borrow.Author.Tests.{leb-true, le-leb, ne_eqb}
use lib.Dec.{eqb, leb}
use lib.ListN.{take, drop, get_or, length}
use lib.Seq.{drop-cons}
use Rattle.algebra.specs.Algebra.{order}
use Rattle.algebra.specs.Order.{pick, best_of}
use Rattle.algebra.specs.Step.{fresh}
use Rattle.weights.specs.declared.Component.{Component}
use Rattle.weights.specs.declared.Component.TheVariants.{Dist, Width, Class, Gain}
use Rattle.weights.specs.declared.PerPlace.{PerPlace}
use Rattle.weights.specs.Sizes.{places, weight_words, ones, arc_sum, matrix_sum}
use Rattle.weights.specs.Weights.{Weight, none, route, Sound, Valid, ValidValue, ValidValues, join, join_values, join_value, better, better_of, unit, unit_values, unit_value, language}
use Rattle.weights.specs.Languages.{places_of, SmallLimit, SmallLimits}
use Rattle.weights.specs.Values.{AtMost, AllAtMost}
use Rattle.weights.specs.Words.{words, all_are, in_range, fits, good, malformed, reading, decoded, is_good}
use Rattle.weights.proofs.Ordering.{join_valid, unit_valid}
use Rattle.weights.proofs.Readings.{well_read, well_valid}
use Rattle.matrices.specs.Buffers.{words_at, entry_place, cell, matrix_in, Formed}
use Rattle.matrices.specs.Steps.{sum_fits, sums_fit, weight_fits}
use Rattle.matrices.specs.Parts.{all_low, low}

-- ---- what a well-formed buffer holds

range_most : (cap n : ℕ) (c : Component) (v : ℕ) → n ≤ cap → SmallLimit n c → in_range cap c v ≡ true → v ≤ cap
range_most cap n Dist v h s e = leb-true v cap e
range_most cap n (Width w) v h s e = omega (arith, leb-true v w ((and-eq-true_iff (leb 1 v) (leb v w)).0 e).1)
range_most cap n (Class k) v h s e = omega (arith, leb-true v k e)
range_most cap n Gain v h s e = leb-true v cap e

pub fits_most : (cap n : ℕ) (cs : List Component) (xs : List ℕ) → n ≤ cap → SmallLimits n cs → fits cap cs xs ≡ true → AllAtMost cap (take (length cs) xs)
fits_most cap n [] xs h s e = tt
fits_most cap n (c ∷ cs) [] h s e = tt
fits_most cap n (c ∷ cs) (x ∷ xs) h s e =
    let k = (and-eq-true_iff (in_range cap c x) (fits cap cs xs)).0 e in (range_most cap n c x h s.0 k.0, fits_most cap n cs xs h s.1 k.1)

-- no value of a weight that reads well is above cap
module _ (cap : ℕ) (cs : List Component) (ws : List ℕ) (e : is_good (reading cap cs ws) ≡ true) where
  read_most : (n : ℕ) → n ≤ cap → SmallLimits n cs → AtMost cap (decoded (length cs) ws)
  read_most n h s = go (all_are ones ws) (fits cap cs ws) refl e
    where
      go : (a b : Bool) → fits cap cs ws ≡ b → is_good (cond a (good none) (cond b (good (route (take (length cs) ws))) malformed)) ≡ true → AtMost cap (cond a none (route (take (length cs) ws)))
      go true b f g = tt
      go false true f g = fits_most cap n cs ws h s f
      go false false f g = absurd (false≢true g)

-- the entries of a well-formed buffer are weights of the language
pub formed_valid : (cap : ℕ) (p : PerPlace Component) (n : ℕ) (s : List ℕ) → Formed cap (places_of p) n s → (i j : ℕ) → i < n → j < n → Valid (places_of p) (matrix_in places n s i j)
unfolding cell
formed_valid cap p n s f i j hi hj = well_valid cap (places_of p) (words_at s (entry_place n i j)) (well_read cap (places_of p) (words_at s (entry_place n i j)) (f.reads i j hi hj))

-- .. and no value of one is above cap
pub formed_most : (cap : ℕ) (p : PerPlace Component) (n : ℕ) (s : List ℕ) → arc_sum ≤ cap → SmallLimits 65535 (places_of p) → Formed cap (places_of p) n s
    → (i j : ℕ) → i < n → j < n → AtMost cap (matrix_in places n s i j)
unfolding cell
formed_most cap p n s h l f i j hi hj = read_most cap (places_of p) (words_at s (entry_place n i j)) (f.reads i j hi hj) arc_sum h l

-- a weight with small values that begins with the word of no route is no route
ones_first : (x : ℕ) (ws : List ℕ) → AtMost arc_sum (decoded places (x ∷ ws)) → x ≡ ones → decoded places (x ∷ ws) ≡ none
ones_first x ws h e = go (all_are ones (x ∷ ws)) h
  where
    go : (t : Bool) → AtMost arc_sum (cond t none (route (take places (x ∷ ws)))) → cond t none (route (take places (x ∷ ws))) ≡ none
    go true q = refl
    go false q = absurd (let z : x ≤ arc_sum = q.0 in omega arith)

pub ones_none : (s : List ℕ) (p : ℕ) → p < length s → AtMost arc_sum (cell places s p) → get_or s p 0 ≡ ones → cell places s p ≡ none
unfolding cell
ones_none s p h q e =
    let d : drop p s ≡ get_or s p 0 ∷ drop (suc p) s = drop-cons s p 0 h in
    ap (λ (l : List ℕ). decoded places (take weight_words l)) d ∙ ones_first (get_or s p 0) (take 3 (drop (suc p) s)) (subst (λ (l : List ℕ). AtMost arc_sum (decoded places (take weight_words l))) d q) e

-- ---- values at most so much

most_weaken_v : (m b : ℕ) (xs : List ℕ) → m ≤ b → AllAtMost m xs → AllAtMost b xs
most_weaken_v m b [] h p = tt
most_weaken_v m b (x ∷ xs) h p = (omega (arith, p.0), most_weaken_v m b xs h p.1)

pub most_weaken : (m b : ℕ) (w : Weight) → m ≤ b → AtMost m w → AtMost b w
most_weaken m b none h p = tt
most_weaken m b (route xs) h p = most_weaken_v m b xs h p

join_most1 : (c : Component) (m b x y : ℕ) → x ≤ m → y ≤ b → join_value c x y ≤ m + b
join_most1 Dist m b x y p q = omega arith
join_most1 (Width w) m b x y p q = omega arith
join_most1 (Class k) m b x y p q = omega arith
join_most1 Gain m b x y p q = omega arith

join_most_v : (cs : List Component) (m b : ℕ) (xs ys : List ℕ) → AllAtMost m xs → AllAtMost b ys → AllAtMost (m + b) (join_values cs xs ys)
join_most_v [] m b xs ys p q = tt
join_most_v (c ∷ cs) m b [] ys p q = tt
join_most_v (c ∷ cs) m b (x ∷ xs) [] p q = tt
join_most_v (c ∷ cs) m b (x ∷ xs) (y ∷ ys) p q = (join_most1 c m b x y p.0 q.0, join_most_v cs m b xs ys p.1 q.1)

pub join_most : (cs : List Component) (m b : ℕ) (x y : Weight) → AtMost m x → AtMost b y → AtMost (m + b) (join cs x y)
join_most cs m b none y p q = tt
join_most cs m b (route xs) none p q = tt
join_most cs m b (route xs) (route ys) p q = join_most_v cs m b xs ys p q

unit_most1 : (n : ℕ) (c : Component) → SmallLimit n c → unit_value c ≤ n
unit_most1 n Dist h = omega arith
unit_most1 n (Width w) h = h
unit_most1 n (Class k) h = omega arith
unit_most1 n Gain h = omega arith

unit_most_v : (n : ℕ) (cs : List Component) → SmallLimits n cs → AllAtMost n (unit_values cs)
unit_most_v n [] h = tt
unit_most_v n (c ∷ cs) h = (unit_most1 n c h.0, unit_most_v n cs h.1)

-- ---- what a row step works out, of valid weights that are at most so much

-- a valid weight, no value above b
pub record Within (b : ℕ) (cs : List Component) (w : Weight) : Type 0 where
  pub valid : Valid cs w
  pub most : AtMost b w

pub within_weaken : (m b : ℕ) (cs : List Component) (w : Weight) → m ≤ b → Within m cs w → Within b cs w
within_weaken m b cs w h p = record { valid = p.valid; most = most_weaken m b w h p.most }

pub within_join : (m b : ℕ) (cs : List Component) (x y : Weight) → Within m cs x → Within b cs y → Within (m + b) cs (join cs x y)
within_join m b cs x y p q = record { valid = join_valid cs x y p.valid q.valid; most = join_most cs m b x y p.most q.most }

pub within_better : (b : ℕ) (cs : List Component) (x y : Weight) → Within b cs x → Within b cs y → Within b cs (better_of cs x y)
unfolding pick
within_better b cs x y p q = go (better cs y x)
  where
    go : (t : Bool) → Within b cs (cond t y x)
    go true = q
    go false = p

pub within_best : (b : ℕ) (cs : List Component) (m : ℕ) (f : ℕ → Weight) (w : Weight) → Within b cs w → ((k : ℕ) → k < m → Within b cs (f k)) → Within b cs (best_of (order (language cs)) m f w)
unfolding best_of
within_best b cs zero f w p q = p
within_best b cs (suc m) f w p q = within_better b cs (best_of (order (language cs)) m f w) (f m) (within_best b cs m f w p (λ k h. q k (omega arith))) (q m (omega arith))

pub within_fresh : (n : ℕ) (cs : List Component) → Sound cs → SmallLimits n cs → (i j : ℕ) → Within n cs (fresh (language cs) i j)
within_fresh n cs s h i j = go (eqb i j)
  where
    go : (t : Bool) → Within n cs (cond t (unit cs) none)
    go true = record { valid = unit_valid cs s; most = unit_most_v n cs h }
    go false = record { valid = tt; most = tt }

pub formed_within : (cap : ℕ) (p : PerPlace Component) (n : ℕ) (s : List ℕ) → arc_sum ≤ cap → SmallLimits 65535 (places_of p) → Formed cap (places_of p) n s
    → (i j : ℕ) → i < n → j < n → Within cap (places_of p) (matrix_in places n s i j)
formed_within cap p n s h l f i j hi hj = record { valid = formed_valid cap p n s f i j hi hj; most = formed_most cap p n s h l f i j hi hj }

-- ---- reading back

-- the words of a weight of four values that are not all ones stand for it
back : (c0 c1 c2 c3 : Component) (b : ℕ) (w : Weight) → b < ones → Within b (c0 ∷ c1 ∷ c2 ∷ c3 ∷ []) w → decoded places (words w) ≡ w
unfolding words
back c0 c1 c2 c3 b none l h = refl
back c0 c1 c2 c3 b (route []) l h = absurd h.valid
back c0 c1 c2 c3 b (route (x ∷ [])) l h = absurd h.valid.1
back c0 c1 c2 c3 b (route (x ∷ y ∷ [])) l h = absurd h.valid.1.1
back c0 c1 c2 c3 b (route (x ∷ y ∷ z ∷ [])) l h = absurd h.valid.1.1.1
back c0 c1 c2 c3 b (route (x ∷ y ∷ z ∷ v ∷ [])) l h = let q : x ≤ b = h.most.0 in rw (ne_eqb x ones (λ e. omega arith))
back c0 c1 c2 c3 b (route (x ∷ y ∷ z ∷ v ∷ u ∷ t)) l h = absurd h.valid.1.1.1.1

pub within_back : (p : PerPlace Component) (b : ℕ) (w : Weight) → b < ones → Within b (places_of p) w → decoded places (words w) ≡ w
within_back p b w l h = back p.first p.second p.third p.fourth b w l h

-- ---- the test of a row step

low_value : (c : Component) (v : ℕ) → SmallLimit 65535 c → ValidValue c v → leb v matrix_sum ≡ sum_fits c v
low_value Dist v s h = refl
low_value (Width w) v s h = le-leb v matrix_sum (omega (arith, h.1))
low_value (Class k) v s h = le-leb v matrix_sum (omega arith)
low_value Gain v s h = refl

low_values : (cs : List Component) (xs : List ℕ) → SmallLimits 65535 cs → ValidValues cs xs → all_low xs ≡ sums_fit cs xs
low_values [] [] s h = refl
low_values [] (x ∷ xs) s h = absurd h
low_values (c ∷ cs) [] s h = absurd h
low_values (c ∷ cs) (x ∷ xs) s h = ap₂ (λ (a b : Bool). a && b) (low_value c x s.0 h.0) (low_values cs xs s.1 h.1)

-- of a valid weight, no value is above 983,025 where no sum is
pub low_fits : (cs : List Component) (w : Weight) → SmallLimits 65535 cs → Valid cs w → low w ≡ weight_fits cs w
low_fits cs none s h = refl
low_fits cs (route xs) s h = low_values cs xs s h

-- ---- well-formed words

value_in : (c : Component) (v : ℕ) → ValidValue c v → sum_fits c v ≡ true → in_range matrix_sum c v ≡ true
value_in Dist v h e = e
value_in (Width w) v h e = rw (le-leb 1 v h.0, le-leb v w h.1)
value_in (Class k) v h e = le-leb v k h
value_in Gain v h e = e

values_in : (cs : List Component) (xs : List ℕ) → ValidValues cs xs → sums_fit cs xs ≡ true → fits matrix_sum cs xs ≡ true
values_in [] [] h e = refl
values_in [] (x ∷ xs) h e = absurd h
values_in (c ∷ cs) [] h e = absurd h
values_in (c ∷ cs) (x ∷ xs) h e =
    let k = (and-eq-true_iff (sum_fits c x) (sums_fit cs xs)).0 e in
    rw (value_in c x h.0 k.0, values_in cs xs h.1 k.1)

good_words4 : (c0 c1 c2 c3 : Component) (w : Weight) → Valid (c0 ∷ c1 ∷ c2 ∷ c3 ∷ []) w → weight_fits (c0 ∷ c1 ∷ c2 ∷ c3 ∷ []) w ≡ true → is_good (reading matrix_sum (c0 ∷ c1 ∷ c2 ∷ c3 ∷ []) (words w)) ≡ true
unfolding words
good_words4 c0 c1 c2 c3 none v e = refl
good_words4 c0 c1 c2 c3 (route []) v e = absurd v
good_words4 c0 c1 c2 c3 (route (x ∷ [])) v e = absurd v.1
good_words4 c0 c1 c2 c3 (route (x ∷ y ∷ [])) v e = absurd v.1.1
good_words4 c0 c1 c2 c3 (route (x ∷ y ∷ z ∷ [])) v e = absurd v.1.1.1
good_words4 c0 c1 c2 c3 (route (x ∷ y ∷ z ∷ u ∷ [])) v e =
    go (all_are ones (x ∷ y ∷ z ∷ u ∷ [])) (fits matrix_sum (c0 ∷ c1 ∷ c2 ∷ c3 ∷ []) (x ∷ y ∷ z ∷ u ∷ [])) (values_in (c0 ∷ c1 ∷ c2 ∷ c3 ∷ []) (x ∷ y ∷ z ∷ u ∷ []) v e)
  where
    go : (s t : Bool) → t ≡ true → is_good (cond s (good none) (cond t (good (route (x ∷ y ∷ z ∷ u ∷ []))) malformed)) ≡ true
    go true t q = refl
    go false true q = refl
    go false false q = absurd (false≢true q)
good_words4 c0 c1 c2 c3 (route (x ∷ y ∷ z ∷ u ∷ t ∷ l)) v e = absurd v.1.1.1.1

-- the words of a valid weight whose sums fit are well-formed
pub good_words : (p : PerPlace Component) (w : Weight) → Valid (places_of p) w → weight_fits (places_of p) w ≡ true → is_good (reading matrix_sum (places_of p) (words w)) ≡ true
good_words p w v e = good_words4 p.first p.second p.third p.fourth w v e
