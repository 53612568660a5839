-- Theorems about decimal digits: the definition without its fuel, reading them back, no zero leads, and how many there are.
use Prim.Native.Nat.{ℕ, zero, suc, ◌+◌, ◌*◌, ◌/◌, ◌%◌, ◌^◌, ◌≤◌, ◌<◌}
use mathlib.Core.Path.{◌≡◌, refl, sym, ap, ◌∙◌}
use mathlib.Core.Bool.{Bool, true, false}
use mathlib.Core.List.{List, [], ◌∷◌, ◌++◌}
use native.Mathlib.Nat.{pow-succ'}
use native.Mathlib.Omega.{arith}
use borrow.Author.Tests.{lt-ltb, le-ltb, ltb-true, ltb-false}
use lib.Dec.{ltb}
use lib.ListN.{length, length-append, get_or}
use Rattle.decimals.specs.Digits.{digit, digits_within, decimal, zero_byte, value_after, value}

-- ---- the fuel

within_one : (fuel x : ℕ) → x < 10 → digits_within (suc fuel) x ≡ digit x ∷ []
unfolding digits_within
within_one fuel x h = rw (lt-ltb _ _ h)

within_more : (fuel x : ℕ) → 10 ≤ x → digits_within (suc fuel) x ≡ digits_within fuel (x / 10) ++ (digit (x % 10) ∷ [])
unfolding digits_within
within_more fuel x h = rw (le-ltb _ _ h)

-- a number below both fuels has the same digits with either
same : (f g x : ℕ) → x < f → x < g → digits_within f x ≡ digits_within g x
same zero g x h k = absurd (omega arith)
same (suc f) zero x h k = absurd (omega arith)
same (suc f) (suc g) x h k = go (ltb x 10) refl (same f g (x / 10))
  where
    go : (b : Bool) → ltb x 10 ≡ b → (x / 10 < f → x / 10 < g → digits_within f (x / 10) ≡ digits_within g (x / 10))
        → digits_within (suc f) x ≡ digits_within (suc g) x
    go true e less = let l = ltb-true x 10 e in within_one f x l ∙ sym (within_one g x l)
    go false e less =
        let l = ltb-false x 10 e in
        within_more f x l
        ∙ ap (λ (ds : List ℕ). ds ++ (digit (x % 10) ∷ [])) (less (omega arith) (omega arith))
        ∙ sym (within_more g x l)

-- a number below ten is its digit
pub decimal_one : (x : ℕ) → x < 10 → decimal x ≡ digit x ∷ []
unfolding decimal
decimal_one x h = within_one x x h

-- any other has the digits of its tenth, then the last one
pub decimal_more : (x : ℕ) → 10 ≤ x → decimal x ≡ decimal (x / 10) ++ (digit (x % 10) ∷ [])
unfolding decimal
decimal_more x h = within_more x x h ∙ ap (λ (ds : List ℕ). ds ++ (digit (x % 10) ∷ [])) (same x (suc (x / 10)) (x / 10) (omega arith) (omega arith))

-- what holds of the digits of each number, from the two
module _ (P : ℕ → List ℕ → Type 0)
    (one : (x : ℕ) → x < 10 → P x (digit x ∷ []))
    (more : (x : ℕ) (ds : List ℕ) → 10 ≤ x → P (x / 10) ds → P x (ds ++ (digit (x % 10) ∷ []))) where
  within : (fuel x : ℕ) → x < fuel → P x (digits_within fuel x)
  within zero x h = absurd (omega arith)
  within (suc fuel) x h = go (ltb x 10) refl (within fuel (x / 10))
    where
      go : (b : Bool) → ltb x 10 ≡ b → (x / 10 < fuel → P (x / 10) (digits_within fuel (x / 10))) → P x (digits_within (suc fuel) x)
      go true e less = let l = ltb-true x 10 e in rw (within_one fuel x l) (one x l)
      go false e less = let l = ltb-false x 10 e in rw (within_more fuel x l) (more x (digits_within fuel (x / 10)) l (less (omega arith)))

  pub by_digits : (x : ℕ) → P x (decimal x)
  unfolding decimal
  by_digits x = within (suc x) x (omega arith)

-- ---- read back

value_snoc : (ds : List ℕ) (v d : ℕ) → value_after v (ds ++ (digit d ∷ [])) ≡ value_after v ds * 10 + d
value_snoc [] v d = omega arith
value_snoc (b ∷ ds) v d = value_snoc ds _ d

-- Reading the digits of a number gives the number.
pub value_decimal : (x : ℕ) → value (decimal x) ≡ x
value_decimal = by_digits (λ x ds. value ds ≡ x) (λ x h. omega arith) (λ x ds h e. value_snoc ds 0 (x % 10) ∙ omega (arith, e))

-- so two numbers with the same digits are equal
pub decimal_once : (x y : ℕ) → decimal x ≡ decimal y → x ≡ y
decimal_once x y e = sym (value_decimal x) ∙ ap value e ∙ value_decimal y

-- ---- which bytes they are

abbrev pub AreDigits : List ℕ → Type 0
AreDigits [] = Unit {0}
AreDigits (b ∷ bs) = (zero_byte ≤ b) × (b < zero_byte + 10) × AreDigits bs

digits_snoc : (ds : List ℕ) (d : ℕ) → AreDigits ds → d < 10 → AreDigits (ds ++ (digit d ∷ []))
digits_snoc [] d h l = (omega arith, omega arith, tt)
digits_snoc (b ∷ ds) d h l = (h.0, h.1, digits_snoc ds d h.2 l)

-- every byte is a digit
pub are_digits : (x : ℕ) → AreDigits (decimal x)
are_digits = by_digits (λ _ ds. AreDigits ds) (λ x h. (omega arith, omega arith, tt)) (λ x ds h a. digits_snoc ds (x % 10) a (omega arith))

first_stays : (ds es : List ℕ) → zero_byte < get_or ds 0 0 → zero_byte < get_or (ds ++ es) 0 0
first_stays [] es h = absurd (omega arith)
first_stays (d ∷ ds) es h = h

-- no zero leads, but in 0 itself
pub no_zero_leads : (x : ℕ) → 0 < x → zero_byte < get_or (decimal x) 0 0
no_zero_leads =
    by_digits (λ x ds. 0 < x → zero_byte < get_or ds 0 0) (λ x h p. omega arith) (λ x ds h e p. first_stays ds _ (e (omega arith)))

-- ---- how many there are

-- a number below a power of ten has no more digits than the power
abbrev Within : ℕ → List ℕ → Type 0
Within x ds = (k : ℕ) → x < 10 ^ suc k → length ds ≤ suc k

one_long : (x : ℕ) → x < 10 → Within x (digit x ∷ [])
one_long x h k l = omega arith

more_long : (x : ℕ) (ds : List ℕ) → 10 ≤ x → Within (x / 10) ds → Within x (ds ++ (digit (x % 10) ∷ []))
more_long x ds h e zero l = let l' : x < 10 = l in absurd (omega arith)
more_long x ds h e (suc k) l = rw length-append (omega (arith, e k (omega (arith, pow-succ' 10 (suc k)))))

-- A word of 32 bits has at most ten digits.
pub decimal_short : (x : ℕ) → x < 4294967296 → length (decimal x) ≤ 10
decimal_short x h = let l : x < 10000000000 = omega arith in by_digits Within one_long more_long x 9 l

-- ---- worked

pub worked : (decimal 0 ≡ 48 ∷ []) × (decimal 105 ≡ 49 ∷ 48 ∷ 53 ∷ [])
unfolding decimal digits_within
worked = (refl, refl)
