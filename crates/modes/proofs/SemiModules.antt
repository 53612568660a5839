-- The three modes are modes of forwarding: plain and cold from the laws D and U, hot with C as well. Cold for every order on t.
use Prim.Native.Nat.{ℕ, ◌<◌}
use mathlib.Core.Path.{◌≡◌, refl, sym, ◌∙◌, ap, subst}
use mathlib.Core.Bool.{Bool, true, false, false≢true, true≢false}
use mathlib.Core.List.{List}
use lib.Dec.{ltb}
use native.Mathlib.Omega.{arith}
use Rattle.algebra.specs.Order.{Ordered}
use Rattle.algebra.specs.Algebra.{Lawful}
use Rattle.algebra.specs.Path.{Matrix, ValidMatrix}
use Rattle.algebra.specs.Network.{Network}
use Rattle.algebra.specs.Best.{Best}
use Rattle.algebra.specs.Step.{Solves}
use Rattle.algebra.specs.Modes.{Table, ValidTable, forwarded, Forwards, BestForwarded, SemiModule}
use Rattle.algebra.proofs.Forwarding.{forwarding, forwarded_best}
use Rattle.weights.specs.declared.Component.{Component}
use Rattle.weights.specs.Weights.{Weight, none, route, Valid, ValidValues, Sound, better, join, unit, language}
use Rattle.weights.specs.Laws.{LawC, test_d, test_u, test_c}
use Rattle.weights.proofs.Decided.{c_holds}
use Rattle.weights.proofs.Languages.{lawful}
use Rattle.modes.specs.declared.Mode.{Mode}
use Rattle.modes.specs.declared.Mode.TheVariants.{Plain, Hot, Cold}
use Rattle.modes.specs.Entries.{Entry, empty, mapped, Comparing, by_weight, by_weight_then_t, by_t_then_weight, comparing, better_entry, with_t, applied, ValidT, ValidEntry, mode_by, mode_of, needs_c}
use Rattle.modes.proofs.Comparisons.{then_split, then_make, numbers, smaller_ordered, Orderly, weight_orderly, weight_then_t_orderly, t_then_weight_orderly}

-- ---- entries

module _ (allowed : ℕ → Type 0) (cs : List Component) (c : Comparing) (o : Orderly allowed cs c) where
  e_self : (e : Entry) → ValidEntry allowed cs e → better_entry c e e ≡ false
  e_self empty v = refl
  e_self (mapped xs t) v = o.self (route xs) t v.0 v.1

  e_chain : (e f g : Entry) → ValidEntry allowed cs e → ValidEntry allowed cs f → ValidEntry allowed cs g → better_entry c f e ≡ false → better_entry c g f ≡ false → better_entry c g e ≡ false
  e_chain e f empty ve vf vg p q = refl
  e_chain e empty (mapped zs v) ve vf vg p q = absurd (true≢false q)
  e_chain empty (mapped ys u) (mapped zs v) ve vf vg p q = absurd (true≢false p)
  e_chain (mapped xs t) (mapped ys u) (mapped zs v) ve vf vg p q = o.chain (route xs) t (route ys) u (route zs) v ve.0 ve.1 vf.0 vf.1 vg.0 vg.1 p q

  e_asym : (e f : Entry) → ValidEntry allowed cs e → ValidEntry allowed cs f → better_entry c f e ≡ true → better_entry c e f ≡ false
  e_asym empty f ve vf p = refl
  e_asym (mapped xs t) empty ve vf p = absurd (false≢true p)
  e_asym (mapped xs t) (mapped ys u) ve vf p = o.asym (route xs) t (route ys) u ve.0 ve.1 vf.0 vf.1 p

  values_same : (xs ys : List ℕ) → route xs ≡ route ys → xs ≡ ys
  values_same xs ys e = cc

  e_antisym : (e f : Entry) → ValidEntry allowed cs e → ValidEntry allowed cs f → better_entry c f e ≡ false → better_entry c e f ≡ false → e ≡ f
  e_antisym empty empty ve vf p q = refl
  e_antisym empty (mapped ys u) ve vf p q = absurd (true≢false p)
  e_antisym (mapped xs t) empty ve vf p q = absurd (true≢false q)
  e_antisym (mapped xs t) (mapped ys u) ve vf p q =
      let (a, b) = o.antisym (route xs) t (route ys) u ve.0 ve.1 vf.0 vf.1 p q in
      let d : xs ≡ ys = values_same xs ys a in
      cc

  -- entries are ordered, whatever the laws of joins
  pub entries_ordered : Ordered (mode_by allowed cs c).entries
  entries_ordered = record { self = e_self; chain = e_chain; asym = e_asym; antisym = e_antisym }

-- ---- what a mode asks of a comparison

pub record Suited (allowed : ℕ → Type 0) (cs : List Component) (c : Comparing) : Type 0 where
  pub orderly : Orderly allowed cs c
  -- with one t, the better weight is no worse
  pub one_t : (x y : Weight) (t : ℕ) → Valid cs x → Valid cs y → allowed t → better cs y x ≡ false → c y t x t ≡ false
  -- joining a route keeps the order
  pub joined : (ss xs : List ℕ) (t : ℕ) (ys : List ℕ) (u : ℕ) → ValidValues cs ss → ValidValues cs xs → allowed t → ValidValues cs ys → allowed u
      → c (route ys) u (route xs) t ≡ false → c (join cs (route ss) (route ys)) u (join cs (route ss) (route xs)) t ≡ false

module _ (allowed : ℕ → Type 0) (cs : List Component) (𝓛 : Lawful (language cs)) where
  -- weights alone: where there is only one t
  pub weight_suited : ((t u : ℕ) → allowed t → allowed u → t ≡ u) → Suited allowed cs (by_weight cs)
  weight_suited one = record {
    orderly = weight_orderly allowed cs one;
    one_t = λ x y t vx vy vt e. e;
    joined = λ ss xs t ys u vs vx vt vy vu. 𝓛.law_d_holds (route ss) (route xs) (route ys) vs vx vy;
  }

  module _ (better_t : ℕ → ℕ → Bool) (𝓣 : Ordered (numbers allowed better_t)) where
    -- the weight, then t: needs law C, by which what is joined alike was alike
    pub weight_then_t_suited : LawC cs → Suited allowed cs (by_weight_then_t better_t cs)
    weight_then_t_suited law = record {
      orderly = weight_then_t_orderly allowed cs better_t 𝓣;
      one_t = λ x y t vx vy vt e. then_make (better cs y x) (better cs x y) (better_t t t) e (λ h. 𝓣.self t vt);
      joined = keeps;
    }
      where
        keeps : (ss xs : List ℕ) (t : ℕ) (ys : List ℕ) (u : ℕ) → ValidValues cs ss → ValidValues cs xs → allowed t → ValidValues cs ys → allowed u
            → by_weight_then_t better_t cs (route ys) u (route xs) t ≡ false → by_weight_then_t better_t cs (join cs (route ss) (route ys)) u (join cs (route ss) (route xs)) t ≡ false
        keeps ss xs t ys u vs vx vt vy vu e =
            let x : Weight = route xs in
            let y : Weight = route ys in
            let s : Weight = route ss in
            let (a, b) = then_split (better cs y x) (better cs x y) (better_t u t) e in
            let d : better cs (join cs s y) (join cs s x) ≡ false = 𝓛.law_d_holds s x y vs vx vy a in
            then_make (better cs (join cs s y) (join cs s x)) (better cs (join cs s x) (join cs s y)) (better_t u t) d
            (λ h. b (subst (λ (z : Weight). better cs x z ≡ false) (law s x y vs vx vy (𝓛.ordered.antisym (join cs s x) (join cs s y) (𝓛.join_valid s x vs vx) (𝓛.join_valid s y vs vy) d h) tt) (𝓛.ordered.self x vx)))

    -- t, then the weight: for every order on t
    pub t_then_weight_suited : Suited allowed cs (by_t_then_weight better_t cs)
    t_then_weight_suited = record {
      orderly = t_then_weight_orderly allowed cs better_t 𝓣;
      one_t = λ x y t vx vy vt e. then_make (better_t t t) (better_t t t) (better cs y x) (𝓣.self t vt) (λ h. e);
      joined = λ ss xs t ys u vs vx vt vy vu e.
          let (a, b) = then_split (better_t u t) (better_t t u) (better cs (route ys) (route xs)) e in
          then_make (better_t u t) (better_t t u) (better cs (join cs (route ss) (route ys)) (join cs (route ss) (route xs))) a (λ h. 𝓛.law_d_holds (route ss) (route xs) (route ys) vs vx vy (b h));
    }

-- ---- a comparison that suits gives a mode of forwarding

module _ (allowed : ℕ → Type 0) (cs : List Component) (𝓛 : Lawful (language cs)) (c : Comparing) (S : Suited allowed cs c) where
  apply_valid : (w : Weight) (e : Entry) → Valid cs w → ValidEntry allowed cs e → ValidEntry allowed cs (applied cs w e)
  apply_valid w empty vw ve = tt
  apply_valid none (mapped ys t) vw ve = tt
  apply_valid (route xs) (mapped ys t) vw ve = (𝓛.join_valid (route xs) (route ys) vw ve.0, ve.1)

  apply_unit : (e : Entry) → ValidEntry allowed cs e → applied cs (unit cs) e ≡ e
  apply_unit empty ve = refl
  apply_unit (mapped ys t) ve = ap (λ (w : Weight). with_t w t) (𝓛.neutral (route ys) ve.0)

  apply_none : (e : Entry) → applied cs none e ≡ empty
  apply_none empty = refl
  apply_none (mapped ys t) = refl

  apply_join : (v w : Weight) (e : Entry) → Valid cs v → Valid cs w → ValidEntry allowed cs e → applied cs (join cs v w) e ≡ applied cs v (applied cs w e)
  apply_join v w empty vv vw ve = refl
  apply_join none w (mapped ys t) vv vw ve = sym (apply_none (applied cs w (mapped ys t)))
  apply_join (route xs) none (mapped ys t) vv vw ve = refl
  apply_join (route xs) (route zs) (mapped ys t) vv vw ve = ap (λ (w : Weight). with_t w t) (𝓛.associates (route xs) (route zs) (route ys) vv vw ve.0)

  keeps_entries : (w : Weight) (e f : Entry) → Valid cs w → ValidEntry allowed cs e → ValidEntry allowed cs f → better_entry c f e ≡ false → better_entry c (applied cs w f) (applied cs w e) ≡ false
  keeps_entries w e empty vw ve vf p = refl
  keeps_entries w empty (mapped ys u) vw ve vf p = absurd (true≢false p)
  keeps_entries none (mapped xs t) (mapped ys u) vw ve vf p = refl
  keeps_entries (route ss) (mapped xs t) (mapped ys u) vw ve vf p = S.joined ss xs t ys u vw ve.0 ve.1 vf.0 vf.1 p

  keeps_weights : (v w : Weight) (e : Entry) → Valid cs v → Valid cs w → ValidEntry allowed cs e → better cs w v ≡ false → better_entry c (applied cs w e) (applied cs v e) ≡ false
  keeps_weights v w empty vv vw ve p = refl
  keeps_weights v none (mapped ys t) vv vw ve p = refl
  keeps_weights none (route zs) (mapped ys t) vv vw ve p = absurd (true≢false p)
  keeps_weights (route xs) (route zs) (mapped ys t) vv vw ve p =
      S.one_t (join cs (route xs) (route ys)) (join cs (route zs) (route ys)) t (𝓛.join_valid (route xs) (route ys) vv ve.0) (𝓛.join_valid (route zs) (route ys) vw ve.0) ve.1 worse
    where
      worse : better cs (join cs (route zs) (route ys)) (join cs (route xs) (route ys)) ≡ false
      worse =
          ap (λ (x : Weight). better cs x (join cs (route xs) (route ys))) (𝓛.commutes (route zs) (route ys) vw ve.0)
          ∙ ap (better cs (join cs (route ys) (route zs))) (𝓛.commutes (route xs) (route ys) vv ve.0)
          ∙ 𝓛.law_d_holds (route ys) (route xs) (route zs) ve.0 vv vw p

  pub suited_mode : SemiModule (language cs) (mode_by allowed cs c)
  suited_mode = record {
    ordered = entries_ordered allowed cs c S.orderly;
    empty_valid = tt;
    apply_valid = apply_valid;
    worst = λ e v. refl;
    apply_unit = apply_unit;
    apply_none = λ e v. apply_none e;
    apply_empty = λ w v. refl;
    apply_join = apply_join;
    keeps_entries = keeps_entries;
    keeps_weights = keeps_weights;
  }

-- ---- the modes

-- An order on t followed by the weight, from D and U: cold, and every other such mode.
pub t_first_mode : (allowed : ℕ → Type 0) (better_t : ℕ → ℕ → Bool) → Ordered (numbers allowed better_t) → (cs : List Component) → Lawful (language cs) → SemiModule (language cs) (mode_by allowed cs (by_t_then_weight better_t cs))
t_first_mode allowed better_t 𝓣 cs 𝓛 = suited_mode allowed cs 𝓛 (by_t_then_weight better_t cs) (t_then_weight_suited allowed cs 𝓛 better_t 𝓣)

pub plain_mode : (cs : List Component) → Lawful (language cs) → SemiModule (language cs) (mode_of Plain cs)
plain_mode cs 𝓛 = suited_mode (ValidT Plain) cs 𝓛 (comparing Plain cs) (weight_suited (ValidT Plain) cs 𝓛 (λ t u p q. omega arith))

pub hot_mode : (cs : List Component) → Lawful (language cs) → LawC cs → SemiModule (language cs) (mode_of Hot cs)
hot_mode cs 𝓛 law = suited_mode (ValidT Hot) cs 𝓛 (comparing Hot cs) (weight_then_t_suited (ValidT Hot) cs 𝓛 ltb (smaller_ordered (ValidT Hot)) law)

pub cold_mode : (cs : List Component) → Lawful (language cs) → SemiModule (language cs) (mode_of Cold cs)
cold_mode cs 𝓛 = t_first_mode (ValidT Cold) ltb (smaller_ordered (ValidT Cold)) cs 𝓛

-- Each mode, where the language has the laws that it needs.
pub language_mode : (mode : Mode) (cs : List Component) → Lawful (language cs) → (needs_c mode ≡ true → LawC cs) → SemiModule (language cs) (mode_of mode cs)
language_mode Plain cs 𝓛 law = plain_mode cs 𝓛
language_mode Hot cs 𝓛 law = hot_mode cs 𝓛 (law refl)
language_mode Cold cs 𝓛 law = cold_mode cs 𝓛

-- ---- forwarding in a language that has the laws that the mode needs

module _ (mode : Mode) (cs : List Component) (sound : Sound cs) (d : test_d cs ≡ true) (u : test_u cs ≡ true) (c : needs_c mode ≡ true → test_c cs ≡ true)
    (n m : ℕ) (A : Matrix (language cs)) (a_valid : ValidMatrix (language cs) n A) (M : Table (language cs) (mode_of mode cs)) (m_valid : ValidTable (language cs) (mode_of mode cs) n m M) where
  net : Network
  net = record { 𝓐 = language cs; 𝓛 = lawful cs sound d u; n = n; A = A; arcs_valid = a_valid }

  law : needs_c mode ≡ true → LawC cs
  law h = c_holds cs (c h)

  -- When R = (A join R) best fresh, F = (A applied to F) best M.
  pub language_forwards : (R : Matrix (language cs)) → ValidMatrix (language cs) n R → Solves (language cs) n A R → Forwards (language cs) (mode_of mode cs) n m A M (forwarded (language cs) (mode_of mode cs) n R M)
  unfolding net
  language_forwards R r_valid solves = forwarding net (mode_of mode cs) (language_mode mode cs (lawful cs sound d u) law) R r_valid solves m M m_valid

  -- Where R holds the best weights, F(i,d) is the best over k and over the paths from i to k of the path's weight applied to M(k,d).
  pub language_forwarded_best : (R : Matrix (language cs)) → ((i j : ℕ) → i < n → j < n → Best (language cs) n A i j (R i j)) → (i e : ℕ) → i < n → e < m
      → BestForwarded (language cs) (mode_of mode cs) n A M i e (forwarded (language cs) (mode_of mode cs) n R M i e)
  unfolding net
  language_forwarded_best R b = forwarded_best net (mode_of mode cs) (language_mode mode cs (lawful cs sound d u) law) m M m_valid R b
