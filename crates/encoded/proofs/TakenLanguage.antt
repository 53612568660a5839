-- Whatever the reader takes is an encoding: a language under some nesting.
use Prim.Native.Nat.{ℕ, zero, suc, ◌+◌, ◌*◌, ◌/◌, ◌%◌, ◌≤◌, ◌<◌}
use mathlib.Core.Path.{◌≡◌, refl, sym, ap, ◌∙◌}
use mathlib.Core.List.{List, [], ◌∷◌, ◌++◌, append_assoc}
use mathlib.Core.Bool.{true, false}
use native.Mathlib.Numerals.{add-one}
use native.Mathlib.Omega.{arith}
use borrow.Author.Tests.{eqb-true, eqb-false, leb-false}
use lib.Dec.{leb, eqb}
use lib.ListN.{length, get_or, drop}
use lib.Seq.{drop-cons}
use Rattle.refusals.specs.declared.Refusal.{Refusal}
use Rattle.weights.specs.declared.Component.{Component}
use Rattle.weights.specs.declared.Component.TheVariants.{Dist, Width, Class, Gain}
use Rattle.weights.specs.Sizes.{product_tags}
use Rattle.weights.specs.Weights.{Sound, SoundLimit}
use Rattle.weights.specs.Languages.{SmallLimit, SmallLimits}
use Rattle.fields.specs.declared.Found.{Found}
use Rattle.file_bytes.specs.Bytes.{two_at}
use Rattle.fields.specs.Nested.{with_component, with_tag, dist_tag, width_tag, class_tag, gain_tag, product_tag, component_read, after, language_from, taken}
use Rattle.fields.proofs.Advancing.{by_test}
use Rattle.encoded.specs.Encode.{Nesting, one, product, nested, bytes2, component_bytes, language_bytes}
use Rattle.encoded.specs.Taken.{AreBytes, found_after}
use Rattle.encoded.proofs.Here.{products, found_tags}
use Rattle.std.specs.Prelude.{Result, Ok, Err}
use Rattle.fields.specs.declared.Taken.{Taken}

pub one_more : (s : List ℕ) (at : ℕ) → at < length s → drop at s ≡ get_or s at 0 ∷ drop (at + 1) s
one_more s at h = drop-cons s at 0 h ∙ ap (λ (z : ℕ). get_or s at 0 ∷ drop z s) (sym (add-one at))

pub two_more : (s : List ℕ) (at : ℕ) → AreBytes s → at + 2 ≤ length s → drop at s ≡ bytes2 (two_at s at) ++ drop (at + 2) s
unfolding bytes2 two_at
two_more s at by h =
    let hi : get_or s at 0 ≡ (get_or s at 0 * 256 + get_or s (at + 1) 0) / 256 = omega (arith, by (at + 1)) in
    let lo : get_or s (at + 1) 0 ≡ (get_or s at 0 * 256 + get_or s (at + 1) 0) % 256 = omega (arith, by (at + 1)) in
    let q : at + 1 + 1 ≡ at + 2 = omega arith in
    one_more s at (omega arith)
    ∙ ap (λ (z : List ℕ). get_or s at 0 ∷ z) (one_more s (at + 1) (omega arith))
    ∙ ap (λ (z : ℕ). get_or s at 0 ∷ get_or s (at + 1) 0 ∷ drop z s) q
    ∙ two (get_or s at 0) (get_or s (at + 1) 0) _ _ (drop (at + 2) s) hi lo
  where
    two : (x y u v : ℕ) (l : List ℕ) → x ≡ u → y ≡ v → x ∷ y ∷ l ≡ u ∷ v ∷ l
    two x y u v l e f = cc

pub two_small : (s : List ℕ) (at : ℕ) → AreBytes s → two_at s at ≤ 65535
unfolding two_at
two_small s at by = omega (arith, by at, by (at + 1))

-- ---- a component, a language

never : {X : Type 0} {r : Refusal} {next : ℕ} {g : Found} → Err r ≡ taken next g → X
never e = let z : ◌≡◌ {A = ℕ} 0 1 = cc in absurd (omega arith)

pub record LanguageOf (s : List ℕ) (at : ℕ) (f : Found) (next : ℕ) (g : Found) : Type 0 where
  pub nesting : Nesting
  pub bytes : drop at s ≡ language_bytes nesting ++ drop next s
  pub found : found_after f nesting ≡ g
  pub limits : Sound (nested nesting)
  pub small : SmallLimits 65535 (nested nesting)
  pub few : f.tags + products nesting ≤ product_tags
  pub into : next ≤ length s

module _ (s : List ℕ) (by : AreBytes s) (at : ℕ) (f : Found) (next : ℕ) (g : Found) (inside : at < length s) (low : f.tags ≤ product_tags) where
  -- a component, its bytes being there
  one_taken : (c : Component) (end : ℕ) → SoundLimit c → SmallLimit 65535 c → drop at s ≡ component_bytes c ++ drop end s → end ≤ length s → taken end (with_component f c) ≡ taken next g
      → LanguageOf s at f next g
  one_taken c end ok small b into e =
      let same : ◌≡◌ {A = Taken} (record { next = end; found = with_component f c }) (record { next = next; found = g }) = cc in
      let i : end ≡ next = ap (λ (x : Taken). x.next) same in
      let j : with_component f c ≡ g = ap (λ (x : Taken). x.found) same in
      record { nesting = one c; bytes = rw (← i) b; found = j; limits = (ok, tt); small = (small, tt); few = omega arith; into = rw (← i) into }

  tagged : (x : ℕ) → eqb (get_or s at 0) x ≡ true → drop at s ≡ x ∷ drop (at + 1) s
  tagged x t = one_more s at inside ∙ ap (λ (z : ℕ). z ∷ drop (at + 1) s) (eqb-true (get_or s at 0) x t)

  limited : (x : ℕ) → eqb (get_or s at 0) x ≡ true → leb (length s) (at + 2) ≡ false → drop at s ≡ x ∷ (bytes2 (two_at s (at + 1)) ++ drop (at + 3) s)
  limited x t h =
      let z : at + 1 + 2 ≡ at + 3 = omega arith in
      tagged x t
      ∙ ap (λ (l : List ℕ). x ∷ l) (two_more s (at + 1) by (omega (arith, leb-false (length s) (at + 2) h)) ∙ ap (λ (k : ℕ). bytes2 (two_at s (at + 1)) ++ drop k s) z)

  abbrev P : Result Taken Refusal → Type 0
  P r = r ≡ taken next g → LanguageOf s at f next g

  component_of_lem : P (component_read s at f)
  unfolding component_read
  component_of_lem =
      by_test P (eqb (get_or s at 0) dist_tag) (λ t. one_taken Dist (at + 1) tt tt (tagged dist_tag t) (omega arith)) (λ _.
      by_test P (eqb (get_or s at 0) gain_tag) (λ t. one_taken Gain (at + 1) tt tt (tagged gain_tag t) (omega arith)) (λ _.
      by_test P (eqb (get_or s at 0) width_tag)
      (λ t. by_test P (leb (length s) (at + 2)) (λ _ e. never e) (λ h.
      by_test P (eqb (two_at s (at + 1)) 0) (λ _ e. never e) (λ z.
      one_taken (Width (two_at s (at + 1))) (at + 3) (positive (two_at s (at + 1)) (eqb-false (two_at s (at + 1)) 0 z)) (two_small s (at + 1) by) (limited width_tag t h) (omega (arith, leb-false (length s) (at + 2) h)))))
      (λ _.
      by_test P (eqb (get_or s at 0) class_tag)
      (λ t. by_test P (leb (length s) (at + 2)) (λ _ e. never e) (λ h.
      one_taken (Class (two_at s (at + 1))) (at + 3) tt (two_small s (at + 1) by) (limited class_tag t h) (omega (arith, leb-false (length s) (at + 2) h))))
      (λ _ e. never e))))
    where
      positive : (x : ℕ) → (x ≡ 0 → ⊥) → 1 ≤ x
      positive zero h = absurd (h refl)
      positive (suc x) h = omega arith

sound_both : (xs ys : List Component) → Sound xs → Sound ys → Sound (xs ++ ys)
sound_both [] ys x y = y
sound_both (c ∷ xs) ys x y = (x.0, sound_both xs ys x.1 y)

small_both : (xs ys : List Component) → SmallLimits 65535 xs → SmallLimits 65535 ys → SmallLimits 65535 (xs ++ ys)
small_both [] ys x y = y
small_both (c ∷ xs) ys x y = (x.0, small_both xs ys x.1 y)

-- two languages under a product
both : (s : List ℕ) (at : ℕ) (f : Found) (mid : ℕ) (q : Found) (next : ℕ) (g : Found) → drop at s ≡ product_tag ∷ drop (at + 1) s
    → LanguageOf s (at + 1) (with_tag f) mid q → LanguageOf s mid q next g → LanguageOf s at f next g
both s at f mid q next g five x y = record {
  nesting = product x.nesting y.nesting;
  bytes =
      five
      ∙ ap (λ (l : List ℕ). product_tag ∷ l)
      (x.bytes ∙ ap (λ (l : List ℕ). language_bytes x.nesting ++ l) y.bytes ∙ sym (append_assoc (language_bytes x.nesting) (language_bytes y.nesting) (drop next s)));
  found = ap (λ (z : Found). found_after z y.nesting) x.found ∙ y.found;
  limits = sound_both (nested x.nesting) (nested y.nesting) x.limits y.limits;
  small = small_both (nested x.nesting) (nested y.nesting) x.small y.small;
  few = omega (arith, y.few, ap (λ (z : Found). z.tags) x.found, found_tags x.nesting (with_tag f));
  into = y.into;
}

pub language_of_lem : (fuel : ℕ) (s : List ℕ) (at : ℕ) (f : Found) (next : ℕ) (g : Found) → AreBytes s → f.tags ≤ product_tags → language_from fuel s at f ≡ taken next g → LanguageOf s at f next g
unfolding language_from
language_of_lem zero s at f next g by low = λ e. never e
language_of_lem (suc fuel) s at f next g by low =
    by_test P (leb (length s) at) (λ _ e. never e) (λ l.
    by_test P (eqb (get_or s at 0) product_tag)
    (λ five. by_test P (leb product_tags f.tags) (λ _ e. never e) (λ h.
    sides (tagged s by at f next g (leb-false (length s) at l) low product_tag five) (language_from fuel s (at + 1) (with_tag f))
    (λ mid q e. language_of_lem fuel s (at + 1) (with_tag f) mid q by (omega (arith, leb-false product_tags f.tags h)) e)
    (λ mid q t. language_of_lem fuel s mid q next g by t)))
    (λ _. component_of_lem s by at f next g (leb-false (length s) at l) low))
  where
    P : Result Taken Refusal → Type 0
    P r = r ≡ taken next g → LanguageOf s at f next g

    sides : drop at s ≡ product_tag ∷ drop (at + 1) s → (r : Result Taken Refusal)
        → ((mid : ℕ) (x : Found) → r ≡ taken mid x → LanguageOf s (at + 1) (with_tag f) mid x)
        → ((mid : ℕ) (x : Found) → x.tags ≤ product_tags → language_from fuel s mid x ≡ taken next g → LanguageOf s mid x next g)
        → after r (language_from fuel s) ≡ taken next g → LanguageOf s at f next g
    sides five (Err r) left right e = never e
    sides five (Ok t) left right e =
        let a = left t.next t.found refl in
        both s at f t.next t.found next g five a (right t.next t.found (omega (arith, a.few, ap (λ (z : Found). z.tags) a.found, found_tags a.nesting (with_tag f))) e)
