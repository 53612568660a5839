-- A refusal is known by its number, which and place: two that tell the same are the same, and none tells 0 0 0.
use Prim.Native.Nat.{ℕ}
use mathlib.Core.Path.{◌≡◌, refl, sym, ap, ◌∙◌}
use mathlib.Core.Bool.{false, cond}
use native.Mathlib.Omega.{arith}
use lib.Dec.{eqb}
use Rattle.refusals.specs.declared.Refusal.{Refusal}
use Rattle.refusals.specs.declared.Refusal.TheVariants.{Bytes, Version, Size, BadComponent, BadCount, Value, NoSuch, NotAscending, Length, Law, Sum, Equation, TooMany}
use Rattle.refusals.specs.declared.Told.{Told}
use Rattle.refusals.specs.Checks.{answer_told, Check}
use Rattle.refusals.specs.Told.{told, done}
use Rattle.std.specs.Prelude.{Ok, Err}

-- the refusal of a number
numbered : ℕ → ℕ → ℕ → Refusal
numbered k w p =
    cond (eqb k 1) (Bytes w p)
    (cond (eqb k 2) (Version w p)
    (cond (eqb k 3) (Size w p)
    (cond (eqb k 4) (BadComponent w p)
    (cond (eqb k 5) (BadCount w p)
    (cond (eqb k 6) (Value w p)
    (cond (eqb k 7) (NoSuch w p)
    (cond (eqb k 8) (NotAscending w p)
    (cond (eqb k 9) (Length w p)
    (cond (eqb k 10) (Law w p)
    (cond (eqb k 11) (Sum w p)
    (cond (eqb k 12) (Equation w p) (TooMany w p))))))))))))

back : Told → Refusal
back t = numbered t.number t.which t.place

back_told : (r : Refusal) → back (told r) ≡ r
unfolding back numbered
back_told (Bytes w p) = refl
back_told (Version w p) = refl
back_told (Size w p) = refl
back_told (BadComponent w p) = refl
back_told (BadCount w p) = refl
back_told (Value w p) = refl
back_told (NoSuch w p) = refl
back_told (NotAscending w p) = refl
back_told (Length w p) = refl
back_told (Law w p) = refl
back_told (Sum w p) = refl
back_told (Equation w p) = refl
back_told (TooMany w p) = refl

pub told_one : (r s : Refusal) → told r ≡ told s → r ≡ s
told_one r s e = sym (back_told r) ∙ ap back e ∙ back_told s

number_of : Told → ℕ
number_of t = t.number

-- no refusal tells 0 0 0
pub told_not_done : (r : Refusal) → told r ≡ done → ⊥
unfolding number_of
told_not_done (Bytes w p) e = let z : ◌≡◌ {A = ℕ} 1 0 = ap number_of e in omega arith
told_not_done (Version w p) e = let z : ◌≡◌ {A = ℕ} 2 0 = ap number_of e in omega arith
told_not_done (Size w p) e = let z : ◌≡◌ {A = ℕ} 3 0 = ap number_of e in omega arith
told_not_done (BadComponent w p) e = let z : ◌≡◌ {A = ℕ} 4 0 = ap number_of e in omega arith
told_not_done (BadCount w p) e = let z : ◌≡◌ {A = ℕ} 5 0 = ap number_of e in omega arith
told_not_done (Value w p) e = let z : ◌≡◌ {A = ℕ} 6 0 = ap number_of e in omega arith
told_not_done (NoSuch w p) e = let z : ◌≡◌ {A = ℕ} 7 0 = ap number_of e in omega arith
told_not_done (NotAscending w p) e = let z : ◌≡◌ {A = ℕ} 8 0 = ap number_of e in omega arith
told_not_done (Length w p) e = let z : ◌≡◌ {A = ℕ} 9 0 = ap number_of e in omega arith
told_not_done (Law w p) e = let z : ◌≡◌ {A = ℕ} 10 0 = ap number_of e in omega arith
told_not_done (Sum w p) e = let z : ◌≡◌ {A = ℕ} 11 0 = ap number_of e in omega arith
told_not_done (Equation w p) e = let z : ◌≡◌ {A = ℕ} 12 0 = ap number_of e in omega arith
told_not_done (TooMany w p) e = let z : ◌≡◌ {A = ℕ} 13 0 = ap number_of e in omega arith

-- two answers with one row are equal
pub answer_one : (a b : Check) → answer_told a ≡ answer_told b → a ≡ b
answer_one (Ok _) (Ok _) e = refl
answer_one (Ok _) (Err r) e = absurd (told_not_done r (sym e))
answer_one (Err r) (Ok _) e = absurd (told_not_done r e)
answer_one (Err r) (Err s) e = ap Err (told_one r s e)

-- a refusal's number is not 0
pub number_some : (r : Refusal) → eqb (told r).number 0 ≡ false
number_some (Bytes w p) = refl
number_some (Version w p) = refl
number_some (Size w p) = refl
number_some (BadComponent w p) = refl
number_some (BadCount w p) = refl
number_some (Value w p) = refl
number_some (NoSuch w p) = refl
number_some (NotAscending w p) = refl
number_some (Length w p) = refl
number_some (Law w p) = refl
number_some (Sum w p) = refl
number_some (Equation w p) = refl
number_some (TooMany w p) = refl
