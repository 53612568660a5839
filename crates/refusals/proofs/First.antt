-- Laws of checks, alone and in a list.
use Prim.Native.Nat.{ℕ}
use mathlib.Core.Path.{◌≡◌, refl, sym, ap, ◌∙◌}
use mathlib.Core.Bool.{Bool, true, false}
use mathlib.Core.List.{List, [], ◌∷◌, ◌++◌}
use native.Mathlib.Omega.{arith}
use Rattle.refusals.specs.declared.Refusal.{Refusal}
use Rattle.refusals.specs.Checks.{unless, first_of, if_passed, Pass, Check}
use Rattle.std.specs.Result.{result_and}
use Rattle.std.specs.Prelude.{Ok, Err}

-- to pass is not to refuse
pub passed_not : (r : Refusal) → ◌≡◌ {A = Check} (Ok tt) (Err r) → ⊥
passed_not r e = let z : ◌≡◌ {A = ℕ} 0 1 = cc in omega arith

-- two refusals of one check are equal
pub refused_one : {r s : Refusal} → ◌≡◌ {A = Check} (Err r) (Err s) → r ≡ s
refused_one e = cc

-- the test of a check that passes holds
pub unless_passes : (b : Bool) (r : Refusal) → unless b r ≡ Ok tt → b ≡ true
unless_passes true r e = refl
unless_passes false r e = absurd (passed_not r (sym e))

-- where one check after another passes, both do
pub both_pass : (x y : Check) → result_and x y ≡ Ok tt → (x ≡ Ok tt) × (y ≡ Ok tt)
both_pass (Ok _) y e = (refl, e)
both_pass (Err r) y e = absurd (passed_not r (sym e))

-- the last check
pub or_passed : (x : Check) → result_and x (Ok tt) ≡ x
or_passed (Ok _) = refl
or_passed (Err r) = refl

pub pass_first : (cs : List Check) → Pass cs → first_of cs ≡ Ok tt
pass_first [] p = refl
pass_first (c ∷ cs) p = rw p.0 (pass_first cs p.1)

pub first_passes : (cs : List Check) → first_of cs ≡ Ok tt → Pass cs
first_passes [] e = tt
first_passes ((Ok _) ∷ cs) e = (refl, first_passes cs e)
first_passes (Err s ∷ cs) e = absurd (passed_not s (sym e))

-- the checks of two lists, one after the other
pub first_append : (cs ds : List Check) → first_of (cs ++ ds) ≡ result_and (first_of cs) (first_of ds)
first_append [] ds = refl
first_append ((Ok _) ∷ cs) ds = first_append cs ds
first_append (Err r ∷ cs) ds = refl

-- ---- one check after another

-- a refusal is the answer
pub stops : {c : Check} {r : Refusal} (d : Check) → c ≡ Err r → result_and c d ≡ Err r
stops d e = rw e

-- a check that passes leaves it to the next
pub goes_on : {c d e : Check} → c ≡ Ok tt → d ≡ e → result_and c d ≡ e
goes_on p q = rw p q

-- what comes after a check counts only where it passes
pub result_and_cong : {c d : Check} (x y : Check) → c ≡ d → (d ≡ Ok tt → x ≡ y) → result_and c x ≡ result_and d y
result_and_cong {c} {d} x y e f = ap (λ (k : Check). result_and k x) e ∙ go d refl
  where
    go : (k : Check) → d ≡ k → result_and k x ≡ result_and k y
    go (Ok _) q = f q
    go (Err r) q = refl

-- three checks, one after the other
pub result_and_assoc : (c d e : Check) → result_and (result_and c d) e ≡ result_and c (result_and d e)
result_and_assoc (Ok _) d e = refl
result_and_assoc (Err r) d e = refl

-- ---- what a call gives

pub if_passed_lem : {X : Type 0} (x y : X) {c : Check} → c ≡ Ok tt → if_passed c x y ≡ x
if_passed_lem x y e = ap (λ (c : Check). if_passed c x y) e

pub if_refused : {X : Type 0} (x y : X) {c : Check} {r : Refusal} → c ≡ Err r → if_passed c x y ≡ y
if_refused x y e = ap (λ (c : Check). if_passed c x y) e
