-- Laws of text in a buffer: one text after another, and a text at the front read back.
use Prim.Native.Nat.{ℕ, suc, ◌+◌, ◌/◌, ◌%◌, ◌≤◌, ◌<◌}
use mathlib.Core.Path.{◌≡◌, refl, sym, ap, ◌∙◌}
use mathlib.Core.List.{List, [], ◌∷◌, ◌++◌}
use native.Mathlib.Nat.{add-zero}
use native.Mathlib.Omega.{arith}
use lib.ListN.{length, take, set, length-append, length-set}
use lib.Seq.{sets, sets-eq, length-sets, take_at}
use Rattle.decimals.specs.Digits.{digit, decimal}
use Rattle.decimals.specs.Texts.{Put}
use Rattle.decimals.proofs.Numbers.{decimal_one, decimal_more, decimal_short}

-- two stores, one after the other
pub sets_append : (xs ys s : List ℕ) (at : ℕ) → sets (sets s at xs) (at + length xs) ys ≡ sets s at (xs ++ ys)
sets_append [] ys s at = rw add-zero
sets_append (x ∷ xs) ys s at = let q : at + length (x ∷ xs) ≡ suc at + length xs = omega arith in rw q (sets_append xs ys (set s at x) (suc at))

-- no text
pub put_none : (s : List ℕ) (at : ℕ) → Put 0 s at [] s at
put_none s at = record { holds = refl; ends = omega arith; near = omega arith; long = refl }

-- one byte
pub put_byte : (s : List ℕ) (at b : ℕ) → Put 1 s at (b ∷ []) (set s at b) (at + 1)
put_byte s at b = record { holds = refl; ends = refl; near = omega arith; long = length-set s at b }

-- a text put after another
pub put_then : {j k : ℕ} {s₀ s₁ s₂ x y : List ℕ} {at mid end : ℕ} → Put j s₀ at x s₁ mid → Put k s₁ mid y s₂ end → Put (j + k) s₀ at (x ++ y) s₂ end
put_then {s₀ = s₀} {s₁ = s₁} {x = x} {y = y} {at = at} {mid = mid} p q = record {
  holds =
      q.holds
      ∙ ap (λ (z : ℕ). sets s₁ z y) p.ends
      ∙ ap (λ (l : List ℕ). sets l (at + length x) y) p.holds
      ∙ sets_append x y s₀ at;
  ends = omega (arith, p.ends, q.ends, length-append x y);
  near = omega (arith, p.near, q.near);
  long = q.long ∙ p.long;
}

-- the same with another bound that is no lower, and for an equal text
pub put_as : {j k : ℕ} {s s' x y : List ℕ} {at end : ℕ} → Put j s at x s' end → x ≡ y → j ≤ k → Put k s at y s' end
put_as {s = s} {at = at} p e h = record {
  holds = p.holds ∙ ap (sets s at) e;
  ends = p.ends ∙ ap (λ (z : List ℕ). at + length z) e;
  near = omega (arith, p.near);
  long = p.long;
}

-- a text put at the front is what stands there
pub put_front : {k : ℕ} {s s' x : List ℕ} {end : ℕ} → Put k s 0 x s' end → length x ≤ length s → take end s' ≡ x
put_front {s = s} {x = x} {end = end} p h =
    ap (take end) (p.holds ∙ sets-eq x s 0 (omega arith))
    ∙ take_at x _ end (sym (p.ends ∙ omega arith))

-- ---- the digits of a number

pub length_one : (x : ℕ) → x < 10 → length (decimal x) ≡ 1
length_one x h = rw (decimal_one x h)

pub length_more : (x : ℕ) → 10 ≤ x → length (decimal x) ≡ length (decimal (x / 10)) + 1
length_more x h = rw (decimal_more x h) (length-append (decimal (x / 10)) (digit (x % 10) ∷ []))

-- a number below ten
pub put_digit : (s : List ℕ) (at x : ℕ) → x < 10 → (at + 1 ≡ at + length (decimal x)) × (set s at (digit x) ≡ sets s at (decimal x))
put_digit s at x h = (omega (arith, length_one x h), rw (decimal_one x h))

-- the last digit after those of the tenth
pub put_last : (s s' : List ℕ) (at end x : ℕ) → 10 ≤ x → end ≡ at + length (decimal (x / 10)) → s' ≡ sets s at (decimal (x / 10))
    → (end + 1 ≡ at + length (decimal x)) × (set s' end (digit (x % 10)) ≡ sets s at (decimal x))
put_last s s' at end x h e q = (
  omega (arith, length_more x h, e),
  ap (λ (z : List ℕ). set z end (digit (x % 10))) q
      ∙ ap (λ (z : ℕ). sets (sets s at (decimal (x / 10))) z (digit (x % 10) ∷ [])) e
      ∙ sets_append (decimal (x / 10)) (digit (x % 10) ∷ []) s at
      ∙ ap (sets s at) (sym (decimal_more x h)),
)

-- the digits of a word of 32 bits are ten at most
pub put_word : (s s' : List ℕ) (at end x : ℕ) → x < 4294967296 → end ≡ at + length (decimal x) → s' ≡ sets s at (decimal x) → Put 10 s at (decimal x) s' end
put_word s s' at end x h e q =
    record { holds = q; ends = e; near = omega (arith, decimal_short x h); long = ap length q ∙ length-sets s at (decimal x) }
