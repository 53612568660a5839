-- An answer in four numbers: number, which and place as 01 tells them, and the one number that a call gives.
-- To be believed: all of it.
use Rattle.std.specs.Prelude.{ℕ, Bool, eqb}
use Rattle.refusals.specs.declared.Told.{Told}
use Rattle.door.specs.declared.Reply.{Reply}

-- what is told, and the number that the call gives
abbrev pub reply_of : Told → ℕ → Reply
reply_of t value = record { number = t.number; which = t.which; place = t.place; value = value }

-- number 0 is done
abbrev pub is_done : Told → Bool
is_done t = eqb t.number 0
