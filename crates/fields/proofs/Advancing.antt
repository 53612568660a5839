-- Laws of reading a language: what is read advances, and the fuel is enough.
use Prim.Native.Nat.{ℕ, zero, suc, ◌+◌, ◌≤◌, ◌<◌}
use mathlib.Core.Path.{◌≡◌, refl, ap, ◌∙◌}
use mathlib.Core.List.{List}
use mathlib.Core.Bool.{Bool, true, false, cond}
use native.Mathlib.Omega.{arith}
use borrow.Author.Tests.{le-leb, lt-leb, eq-eqb, ne_eqb, leb-false}
use lib.Dec.{leb, eqb}
use lib.ListN.{length, get_or}
use Rattle.refusals.specs.declared.Refusal.TheVariants.{Bytes, BadCount}
use Rattle.weights.specs.declared.Component.{Component}
use Rattle.weights.specs.declared.Language.{Language}
use Rattle.weights.specs.Sizes.{product_tags}
use Rattle.fields.specs.declared.Found.{Found}
use Rattle.file_bytes.specs.Bytes.{two_at}
use Rattle.fields.specs.Nested.{added, with_component, with_tag, dist_tag, width_tag, class_tag, gain_tag, product_tag, component_read, after, language_from, language_at, taken}
use Rattle.fields.specs.Parts.{Onward, Advances}
use Rattle.std.specs.Prelude.{Result, Ok, Err}
use Rattle.fields.specs.declared.Taken.{Taken}
use Rattle.refusals.specs.declared.Refusal.{Refusal}

by_language : (P : Language → Type 0) (b : Bool) {x y : Language} → P x → P y → P (cond b x y)
by_language P true hx hy = hx
by_language P false hx hy = hy

-- a component more is one more
pub added_count : (l : Language) (c : Component) → (added l c).count ≡ l.count + 1
unfolding added
added_count l c =
    by_language (λ (q : Language). q.count ≡ l.count + 1) (eqb l.count 0) refl
    (by_language (λ (q : Language). q.count ≡ l.count + 1) (eqb l.count 1) refl
    (by_language (λ (q : Language). q.count ≡ l.count + 1) (eqb l.count 2) refl refl))

-- a case is taken apart by its test
pub by_test : (P : Result Taken Refusal → Type 0) (b : Bool) {x y : Result Taken Refusal} → (b ≡ true → P x) → (b ≡ false → P y) → P (cond b x y)
by_test P true hx hy = hx refl
by_test P false hx hy = hy refl

module _ (s : List ℕ) (at : ℕ) (f : Found) (low : f.tags ≤ product_tags) where
  one_taken : (k : ℕ) (c : Component) → 0 < k → k ≤ 3 → at + k ≤ length s → Advances s at f (taken (at + k) (with_component f c))
  one_taken k c h t e =
      let n = added_count f.language c in
      record { onward = omega arith; inside = e; grown = omega arith; few = low; counted = omega (arith, n); near = omega (arith, n) }

  pub component_advances : at < length s → Advances s at f (component_read s at f)
  unfolding component_read
  component_advances h =
      by_test (Advances s at f) (eqb (get_or s at 0) dist_tag) (λ e. one_taken 1 _ (omega arith) (omega arith) (omega arith)) (λ e.
      by_test (Advances s at f) (eqb (get_or s at 0) gain_tag) (λ e. one_taken 1 _ (omega arith) (omega arith) (omega arith)) (λ e.
      by_test (Advances s at f) (eqb (get_or s at 0) width_tag) (λ e.
      by_test (Advances s at f) (leb (length s) (at + 2)) (λ e. tt) (λ g.
      by_test (Advances s at f) (eqb (two_at s (at + 1)) 0) (λ e. tt)
      (λ e. one_taken 3 _ (omega arith) (omega arith) (omega (arith, leb-false (length s) (at + 2) g)))))
      (λ e.
      by_test (Advances s at f) (eqb (get_or s at 0) class_tag) (λ e.
      by_test (Advances s at f) (leb (length s) (at + 2)) (λ e. tt) (λ g. one_taken 3 _ (omega arith) (omega arith) (omega (arith, leb-false (length s) (at + 2) g))))
      (λ e. tt))))

-- one language after another
pub then_advances : (s : List ℕ) (at : ℕ) (f : Found) (r : Result Taken Refusal) (k : ℕ → Found → Result Taken Refusal)
    → Advances s (at + 1) (with_tag f) r
    → ((n : ℕ) (g : Found) → g.tags ≤ product_tags → Advances s n g (k n g))
    → Advances s at f (after r k)
then_advances s at f (Err r) k h g = tt
then_advances s at f (Ok t) k h g = two (k t.next t.found) (g t.next t.found h.few)
  where
    two : (r : Result Taken Refusal) → Advances s t.next t.found r → Advances s at f r
    two (Err r) a = tt
    two (Ok u) a = record {
      onward = omega (arith, h.onward, a.onward);
      inside = a.inside;
      grown = omega (arith, h.grown, a.grown);
      few = a.few;
      counted = omega (arith, h.counted, a.counted);
      near = omega (arith, h.near, a.near);
    }

pub advances : (fuel : ℕ) (s : List ℕ) (at : ℕ) (f : Found) → f.tags ≤ product_tags → Advances s at f (language_from fuel s at f)
unfolding language_from
advances zero s at f h = tt
advances (suc fuel) s at f h =
    by_test (Advances s at f) (leb (length s) at) (λ e. tt) (λ l.
    by_test (Advances s at f) (eqb (get_or s at 0) product_tag)
    (λ e. by_test (Advances s at f) (leb product_tags f.tags) (λ e. tt) (λ g.
    then_advances s at f (language_from fuel s (at + 1) (with_tag f)) (language_from fuel s)
    (advances fuel s (at + 1) (with_tag f) (omega (arith, leb-false product_tags f.tags g)))
    (λ n q hq. advances fuel s n q hq)))
    (λ e. component_advances s at f h (omega (arith, leb-false (length s) at l))))

pub otherwise : (b : Bool) (x : Result Taken Refusal) {y z : Result Taken Refusal} → (b ≡ false → y ≡ z) → cond b x y ≡ cond b x z
otherwise true x h = refl
otherwise false x h = h refl

pub after_same : (r : Result Taken Refusal) {k l : ℕ → Found → Result Taken Refusal} → ((n : ℕ) (g : Found) → r ≡ taken n g → k n g ≡ l n g) → after r k ≡ after r l
after_same (Ok t) h = h t.next t.found refl
after_same (Err r) h = refl

-- where more fuel is left than tags may still come, one more changes nothing
pub enough : (fuel : ℕ) (s : List ℕ) (at : ℕ) (f : Found) → f.tags ≤ product_tags → product_tags < fuel + f.tags → language_from fuel s at f ≡ language_from (suc fuel) s at f
unfolding language_from
enough zero s at f h g = absurd (omega arith)
enough (suc fuel) s at f h g =
    otherwise (leb (length s) at) (Err (Bytes 0 at)) (λ l.
    ap (λ (r : Result Taken Refusal). cond (eqb (get_or s at 0) product_tag) r (component_read s at f))
    (otherwise (leb product_tags f.tags) (Err (BadCount 0 at)) (λ b.
    let low : f.tags + 1 ≤ product_tags = omega (arith, leb-false product_tags f.tags b) in
    after_same (language_from fuel s (at + 1) (with_tag f)) {k = language_from fuel s} {l = language_from (suc fuel) s} (λ n q e.
    let a : Onward s (at + 1) (with_tag f) n q = rw e at (advances fuel s (at + 1) (with_tag f) low) in
    enough fuel s n q a.few (omega (arith, a.grown)))
    ∙ ap (λ (r : Result Taken Refusal). after r (language_from (suc fuel) s)) (enough fuel s (at + 1) (with_tag f) low (omega arith)))))

-- the reading by cases
module _ (s : List ℕ) (at : ℕ) (f : Found) where
  pub read_end : length s ≤ at → language_at s at f ≡ Err (Bytes 0 at)
  unfolding language_from
  read_end h = rw (le-leb _ _ h)

  pub read_fourth : at < length s → get_or s at 0 ≡ product_tag → product_tags ≤ f.tags → language_at s at f ≡ Err (BadCount 0 at)
  unfolding language_from
  read_fourth h e g = rw (lt-leb _ _ h, eq-eqb _ _ e, le-leb _ _ g)

  pub read_component : at < length s → (get_or s at 0 ≡ product_tag → ⊥) → language_at s at f ≡ component_read s at f
  unfolding language_from
  read_component h e = rw (lt-leb _ _ h, ne_eqb _ _ e)

  step : at < length s → get_or s at 0 ≡ product_tag → f.tags < product_tags
      → language_at s at f ≡ after (language_from product_tags s (at + 1) (with_tag f)) (language_from product_tags s)
  unfolding language_from
  step h e g = rw (lt-leb _ _ h, eq-eqb _ _ e, lt-leb _ _ g)

  pub read_product : at < length s → get_or s at 0 ≡ product_tag → f.tags < product_tags
      → language_at s at f ≡ after (language_at s (at + 1) (with_tag f)) (language_at s)
  read_product h e g =
      step h e g
      ∙ after_same (language_from product_tags s (at + 1) (with_tag f)) {k = language_from product_tags s} {l = language_at s} (λ n q d.
      let a : Onward s (at + 1) (with_tag f) n q = rw d at (advances product_tags s (at + 1) (with_tag f) (omega arith)) in
      enough product_tags s n q a.few (omega (arith, a.grown)))
      ∙ ap (λ (r : Result Taken Refusal). after r (language_at s)) (enough product_tags s (at + 1) (with_tag f) (omega arith) (omega arith))
