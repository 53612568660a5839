-- What it takes for a call to refuse: the row told and the check that gives it.
use mathlib.Core.Path.{◌≡◌, refl, sym, ap}
use mathlib.Core.Bool.{Bool, true, false}
use mathlib.Core.Logic.{◌↔◌}
use Rattle.refusals.specs.declared.Refusal.{Refusal}
use Rattle.refusals.specs.Told.{told}
use Rattle.refusals.specs.Checks.{unless, answer_told, Check}
use Rattle.refusals.proofs.OneToOne.{told_one, told_not_done}
use Rattle.refusals.proofs.First.{passed_not, refused_one}
use Rattle.std.specs.Prelude.{Ok, Err}

-- a call tells r's row exactly when its checks refuse r
pub told_check : (c : Check) (r : Refusal) → (answer_told c ≡ told r) ↔ (c ≡ Err r)
told_check (Ok _) r = (λ e. absurd (told_not_done r (sym e)), λ e. absurd (passed_not r e))
told_check (Err s) r = (λ e. ap Err (told_one s r e), λ e. ap answer_told e)

pub unless_refuses : (b : Bool) (r s : Refusal) → (unless b r ≡ Err s) → (b ≡ false) × (r ≡ s)
unless_refuses true r s e = absurd (passed_not s e)
unless_refuses false r s e = (refl, refused_one e)
