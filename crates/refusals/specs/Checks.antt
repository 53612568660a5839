-- A call's checks in order: each gives a refusal or passes, and the first refusal is the call's answer.
-- To be believed: all of it.
use Rattle.std.specs.Prelude.{◌≡◌, Bool, true, false, List, [], ◌∷◌, Result, Ok, Err}
use Rattle.std.specs.Result.{result_and}
use Rattle.refusals.specs.declared.Refusal.{Refusal}
use Rattle.refusals.specs.declared.Told.{Told}
use Rattle.refusals.specs.Told.{told, done}

-- what a check gives, and a call that gives no number: it passes, or refuses
abbrev pub Check : Type 0
Check = Result Unit Refusal

-- refuse where the test fails
abbrev pub unless : Bool → Refusal → Check
unless true r = Ok tt
unless false r = Err r

-- the first refusal of the checks, in order: each, and the next where it passes
abbrev pub first_of : List Check → Check
first_of [] = Ok tt
first_of (c ∷ cs) = result_and c (first_of cs)

-- what a call gives where its checks pass, and else
abbrev pub if_passed : {X : Type 0} → Check → X → X → X
if_passed (Ok _) x y = x
if_passed (Err r) x y = y

-- every check of the list passes
abbrev pub Pass : List Check → Type 0
Pass [] = Unit {0}
Pass (c ∷ cs) = (c ≡ Ok tt) × Pass cs

-- 01's row of a check, and of the answer of a call that gives no number
abbrev pub answer_told : Check → Told
answer_told (Ok _) = done
answer_told (Err r) = told r
