-- 01's table of refusal numbers: what each case of the refusal enum tells.
-- To be believed: all of it.
use Rattle.std.specs.Prelude.{ℕ}
use Rattle.refusals.specs.declared.Refusal.{Refusal}
use Rattle.refusals.specs.declared.Refusal.TheVariants.{Bytes, Version, Size, BadComponent, BadCount, Value, NoSuch, NotAscending, Length, Law, Sum, Equation, TooMany}
use Rattle.refusals.specs.declared.Told.{Told}

-- a row of number, which and place
abbrev pub row : ℕ → ℕ → ℕ → Told
row number which place = record { number = number; which = which; place = place }

-- 0 0 0 is done
abbrev pub done : Told
done = row 0 0 0

-- 01's number of each refusal, beside the which and the place that it was made with
abbrev pub told : Refusal → Told
-- count of bytes wrong, field or record cut, bytes left over
told (Bytes which place) = row 1 which place
-- version not 1
told (Version which place) = row 2 which place
-- n, m or mode out of range
told (Size which place) = row 3 which place
-- unknown tag; width limit 0
told (BadComponent which place) = row 4 which place
-- fourth tag 5; component count not 1..4
told (BadCount which place) = row 5 which place
-- value out of range or malformed
told (Value which place) = row 6 which place
-- no such node, destination or step
told (NoSuch which place) = row 7 which place
-- list doesn't ascend
told (NotAscending which place) = row 8 which place
-- buffer length
told (Length which place) = row 9 which place
-- law missing
told (Law which place) = row 10 which place
-- a row step would store a sum above 983,025
told (Sum which place) = row 11 which place
-- R doesn't satisfy the equation
told (Equation which place) = row 12 which place
-- over 4,096 steps
told (TooMany which place) = row 13 which place
