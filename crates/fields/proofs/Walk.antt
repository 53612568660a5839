-- The cases of a language, which go tag by tag, are what the nested reading of it refuses.
use Prim.Native.Nat.{ℕ, zero, suc, ◌+◌, ◌-◌, ◌≤◌, ◌<◌}
use mathlib.Core.Path.{◌≡◌, refl, sym, ap, ◌∙◌}
use mathlib.Core.Bool.{Bool, true, false, ◌&&◌}
use mathlib.Core.List.{List, ◌++◌}
use native.Mathlib.Omega.{arith}
use borrow.Author.Tests.{leb-true, leb-false, le-leb, lt-leb, eqb-true, eqb-false, ne_eqb}
use lib.Dec.{leb, eqb}
use lib.ListN.{length}
use Rattle.refusals.specs.declared.Refusal.TheVariants.{Bytes, BadCount}
use Rattle.refusals.specs.Cases.{Case, check_of}
use Rattle.weights.specs.Sizes.{product_tags}
use Rattle.fields.specs.declared.Found.{Found}
use Rattle.file_bytes.specs.Bytes.{two_at}
use Rattle.fields.specs.Nested.{nothing, with_tag, dist_tag, width_tag, class_tag, gain_tag, product_tag, component_read, after, language_at}
use Rattle.fields.specs.Parts.{Advances}
use Rattle.fields.specs.Cases.{byte_at, tag_cases, after_component, nested_cases}
use Rattle.fields.proofs.Cases.{positive}
use Rattle.fields.proofs.Advancing.{by_test, advances, read_end, read_fourth, read_component, read_product}
use Rattle.refusals.specs.Checks.{Check}
use Rattle.std.specs.Prelude.{Result, Ok, Err}
use Rattle.fields.specs.declared.Taken.{Taken}
use Rattle.refusals.specs.declared.Refusal.{Refusal}

-- the refusal of a language, or the check of what follows it
abbrev pub once_read : Result Taken Refusal → (ℕ → Found → Check) → Check
once_read (Ok t) k = k t.next t.found
once_read (Err r) k = Err r

-- a tag that is none of the five
unknown : (t : ℕ) → (t ≡ 1 → ⊥) → (t ≡ 4 → ⊥) → (t ≡ 2 → ⊥) → (t ≡ 3 → ⊥) → (t ≡ 5 → ⊥) → (leb 1 t && leb t 5) ≡ false
unknown zero a b c d e = refl
unknown (suc zero) a b c d e = absurd (a refl)
unknown (suc (suc zero)) a b c d e = absurd (c refl)
unknown (suc (suc (suc zero))) a b c d e = absurd (d refl)
unknown (suc (suc (suc (suc zero)))) a b c d e = absurd (b refl)
unknown (suc (suc (suc (suc (suc zero))))) a b c d e = absurd (e refl)
unknown (suc (suc (suc (suc (suc (suc t)))))) a b c d e = rw (le-leb 1 (suc (suc (suc (suc (suc (suc t)))))) (omega arith), lt-leb (suc (suc (suc (suc (suc (suc t)))))) 5 (omega arith))

module _ (s : List ℕ) (at left : ℕ) (f : Found) where
  -- one component, and the cases after it
  component_check : (cs : ℕ → List Case) (k : ℕ → Found → Check) → ((n : ℕ) (g : Found) → g.tags ≡ f.tags → check_of (cs n) ≡ k n g)
      → at < length s → (byte_at s at ≡ product_tag → ⊥) → check_of (tag_cases s at left ++ cs (after_component s at)) ≡ once_read (component_read s at f) k
  unfolding component_read
  component_check cs k same h other =
      by_test P (eqb (byte_at s at) dist_tag) (λ e. rw (there, is dist_tag e) (same (at + 1) _ refl)) (λ a.
      by_test P (eqb (byte_at s at) gain_tag) (λ e. rw (there, is gain_tag e) (same (at + 1) _ refl)) (λ b.
      by_test P (eqb (byte_at s at) width_tag) (λ e.
      by_test P (leb (length s) (at + 2)) (λ l. rw (there, is width_tag e, cut l)) (λ l.
      by_test P (eqb (two_at s (at + 1)) 0) (λ z. rw (there, is width_tag e, room l, eqb-true (two_at s (at + 1)) 0 z)) (λ z.
      rw (there, is width_tag e, room l, le-leb 1 (two_at s (at + 1)) (positive (two_at s (at + 1)) (eqb-false (two_at s (at + 1)) 0 z))) (same (at + 3) _ refl))))
      (λ c.
      by_test P (eqb (byte_at s at) class_tag) (λ e.
      by_test P (leb (length s) (at + 2)) (λ l. rw (there, is class_tag e, cut l)) (λ l. rw (there, is class_tag e, room l) (same (at + 3) _ refl)))
      (λ d. rw (there, unknown (byte_at s at) (not_is dist_tag a) (not_is gain_tag b) (not_is width_tag c) (not_is class_tag d) other)))))
    where
      P : Result Taken Refusal → Type 0
      P r = check_of (tag_cases s at left ++ cs (after_component s at)) ≡ once_read r k

      is : (tag : ℕ) → eqb (byte_at s at) tag ≡ true → byte_at s at ≡ tag
      is tag = eqb-true (byte_at s at) tag

      not_is : (tag : ℕ) → eqb (byte_at s at) tag ≡ false → byte_at s at ≡ tag → ⊥
      not_is tag = eqb-false (byte_at s at) tag

      there : leb (at + 1) (length s) ≡ true
      there = le-leb (at + 1) (length s) (omega arith)

      cut : leb (length s) (at + 2) ≡ true → leb (at + 1 + 2) (length s) ≡ false
      cut l = lt-leb (at + 1 + 2) (length s) (omega (arith, leb-true (length s) (at + 2) l))

      room : leb (length s) (at + 2) ≡ false → leb (at + 1 + 2) (length s) ≡ true
      room l = le-leb (at + 1 + 2) (length s) (omega (arith, leb-false (length s) (at + 2) l))

module _ (s : List ℕ) where
  -- the check of the languages that are still wanted, after what has been found
  abbrev rest : ℕ → ℕ → Found → Check
  rest wanted next g = check_of (nested_cases s next (product_tags - g.tags) wanted)

  at_end : (at left wanted : ℕ) → length s ≤ at → check_of (nested_cases s at left (suc wanted)) ≡ Err (Bytes 0 at)
  unfolding nested_cases
  at_end at zero wanted h = rw (lt-leb (at + 1) (length s) (omega arith))
  at_end at (suc left) wanted h = rw (lt-leb (at + 1) (length s) (omega arith))

  at_component : (at left wanted : ℕ) → (byte_at s at ≡ product_tag → ⊥)
      → check_of (nested_cases s at left (suc wanted)) ≡ check_of (tag_cases s at left ++ nested_cases s (after_component s at) left wanted)
  unfolding nested_cases
  at_component at zero wanted other = refl
  at_component at (suc left) wanted other = rw (ne_eqb (byte_at s at) product_tag other)

  at_fourth : (at wanted : ℕ) → at < length s → byte_at s at ≡ product_tag → check_of (nested_cases s at zero (suc wanted)) ≡ Err (BadCount 0 at)
  unfolding nested_cases
  at_fourth at wanted h e = rw (le-leb (at + 1) (length s) (omega arith), e)

  at_product : (at left wanted : ℕ) → at < length s → byte_at s at ≡ product_tag
      → check_of (nested_cases s at (suc left) (suc wanted)) ≡ check_of (nested_cases s (at + 1) left (suc (suc wanted)))
  unfolding nested_cases
  at_product at left wanted h e = rw (le-leb (at + 1) (length s) (omega arith), e, le-leb 1 (suc left) (omega arith))

  -- from a language on, before which three tags 5 stood but for those left
  abbrev Walks : ℕ → Type 0
  Walks fuel = (at : ℕ) (f : Found) (left wanted : ℕ) → left < fuel → f.tags + left ≡ product_tags → check_of (nested_cases s at left (suc wanted)) ≡ once_read (language_at s at f) (rest wanted)

  tagged : (fuel : ℕ) → Walks fuel → (at : ℕ) (f : Found) (left wanted : ℕ) → left < suc fuel → f.tags + left ≡ product_tags → at < length s → byte_at s at ≡ product_tag
      → check_of (nested_cases s at left (suc wanted)) ≡ once_read (language_at s at f) (rest wanted)
  tagged fuel walks at f zero wanted l q h e =
      at_fourth at wanted h e ∙ sym (ap (λ (r : Result Taken Refusal). once_read r (rest wanted)) (read_fourth s at f h e (omega arith)))
  tagged fuel walks at f (suc left) wanted l q h e =
      at_product at left wanted h e
      ∙ walks (at + 1) (with_tag f) left (suc wanted) (omega arith) (omega arith)
      ∙ second (language_at s (at + 1) (with_tag f)) (advances (suc product_tags) s (at + 1) (with_tag f) (omega arith))
      ∙ sym (ap (λ (r : Result Taken Refusal). once_read r (rest wanted)) (read_product s at f h e (omega arith)))
    where
      second : (r : Result Taken Refusal) → Advances s (at + 1) (with_tag f) r → once_read r (rest (suc wanted)) ≡ once_read (after r (language_at s)) (rest wanted)
      second (Err x) a = refl
      second (Ok t) a = walks t.next t.found (product_tags - t.found.tags) wanted (omega (arith, a.grown, a.few)) (omega (arith, a.few))

  walk : (fuel : ℕ) → Walks fuel
  walk zero at f left wanted l q = absurd (omega arith)
  walk (suc fuel) at f left wanted l q = go (leb (length s) at) (eqb (byte_at s at) product_tag) refl refl (walk fuel)
    where
      left_is : (g : Found) → g.tags ≡ f.tags → left ≡ product_tags - g.tags
      left_is g e = omega arith

      go : (a b : Bool) → leb (length s) at ≡ a → eqb (byte_at s at) product_tag ≡ b → Walks fuel → check_of (nested_cases s at left (suc wanted)) ≡ once_read (language_at s at f) (rest wanted)
      go true b c d walks =
          let h = leb-true (length s) at c in
          at_end at left wanted h ∙ sym (ap (λ (r : Result Taken Refusal). once_read r (rest wanted)) (read_end s at f h))
      go false true c d walks = tagged fuel walks at f left wanted l q (leb-false (length s) at c) (eqb-true (byte_at s at) product_tag d)
      go false false c d walks =
          let h = leb-false (length s) at c in
          let other = eqb-false (byte_at s at) product_tag d in
          at_component at left wanted other
          ∙ component_check s at left f (λ n. nested_cases s n left wanted) (rest wanted) (λ n g e. ap (λ (k : ℕ). check_of (nested_cases s n k wanted)) (left_is g e)) h other
          ∙ sym (ap (λ (r : Result Taken Refusal). once_read r (rest wanted)) (read_component s at f h other))

-- none is wanted
ended : (s : List ℕ) (next left : ℕ) → check_of (nested_cases s next left 0) ≡ Ok tt
unfolding nested_cases
ended s next zero = refl
ended s next (suc left) = refl

-- The cases of a file's language refuse what its reading does.
pub language_check_lem : (s : List ℕ) → check_of (nested_cases s 8 product_tags 1) ≡ once_read (language_at s 8 nothing) (λ next f. (Ok tt))
language_check_lem s = walk s (suc product_tags) 8 nothing product_tags 0 (omega arith) refl ∙ last (language_at s 8 nothing)
  where
    last : (r : Result Taken Refusal) → once_read r (rest s 0) ≡ once_read r (λ next f. (Ok tt))
    last (Ok t) = ended s t.next (product_tags - t.found.tags)
    last (Err x) = refl
