-- The decimal digits of a number, as bytes (01, "The printed case").
-- To be believed: all of it. That the fuel of `digits_within` is enough, that reading gives the number back and that no zero leads
-- are theorems (proofs/Numbers).
use Rattle.std.specs.Prelude.{ℕ, zero, suc, ◌+◌, ◌-◌, ◌*◌, ◌/◌, ◌%◌, cond, List, [], ◌∷◌, ◌++◌, ltb}

-- the byte of the digit 0; those of 1 to 9 follow it
abbrev pub zero_byte : ℕ
zero_byte = 48

-- the byte of a digit d, 0 to 9
abbrev pub digit : ℕ → ℕ
digit d = zero_byte + d

-- the digits of x, the most significant first; the fuel bounds how many there are
unfoldable pub digits_within : ℕ → ℕ → List ℕ
digits_within zero x = []
digits_within (suc fuel) x = cond (ltb x 10) (digit x ∷ []) (digits_within fuel (x / 10) ++ (digit (x % 10) ∷ []))

-- The decimal digits of x.
unfoldable pub decimal : ℕ → List ℕ
decimal x = digits_within (suc x) x

-- the number that digits stand for, after others that stand for v
abbrev pub value_after : ℕ → List ℕ → ℕ
value_after v [] = v
value_after v (b ∷ bs) = value_after (v * 10 + (b - zero_byte)) bs

-- The number that digits stand for.
abbrev pub value : List ℕ → ℕ
value = value_after 0
