-- Two answers that meet one contract are equal, with what they leave in the buffer; so are two answers of the checks.
use Prim.Native.Nat.{ℕ}
use mathlib.Core.Path.{◌≡◌, sym, ap, ap₂}
use mathlib.Core.List.{List}
use Rattle.refusals.specs.Checks.{answer_told, Check}
use Rattle.refusals.proofs.OneToOne.{told_one, told_not_done, answer_one}
use Rattle.refusals.proofs.Pinned.{equation_pins}
use Rattle.weights.specs.declared.Language.{Language}
use Rattle.routes.specs.declared.Stopped.{Stopped}
use Rattle.guards.specs.OnNetwork.{OnNetwork}
use Rattle.routes.specs.Calls.{equation_check, fresh_check, fresh_left, StepsRow, steps_row, steps_left, steps_said, EquationRow, equation_row, equation_said}
use Rattle.routes.specs.Ready.{MatricesReady}
use Rattle.guards.proofs.Unique.{one_ready}
use Rattle.std.specs.Prelude.{Result, Bool, Ok, Err}
use Rattle.refusals.specs.declared.Refusal.{Refusal}
use Rattle.weights.specs.declared.PerPlace.{PerPlace}
use Rattle.weights.specs.declared.Component.{Component}

-- what the buffer of fresh holds is pinned with the answer
pub fresh_answers_equal : (l : Language) (n : ℕ) (r : List ℕ) (x y : Check) (left right : List ℕ)
    → (answer_told x ≡ answer_told (fresh_check l n r)) × (left ≡ fresh_left l n r)
    → (answer_told y ≡ answer_told (fresh_check l n r)) × (right ≡ fresh_left l n r)
    → (x ≡ y) × (left ≡ right)
fresh_answers_equal l n r x y left right p q = (answer_one x y (equation_pins p.0 q.0), equation_pins p.1 q.1)

steps_one : (x y : Result ℕ Stopped) → steps_said x ≡ steps_said y → x ≡ y
steps_one (Ok k) (Ok m) e = ap Ok (ap (λ (w : StepsRow). w.done) e)
steps_one (Ok k) (Err s) e = absurd (told_not_done s.refusal (sym (ap (λ (w : StepsRow). w.told) e)))
steps_one (Err s) (Ok m) e = absurd (told_not_done s.refusal (ap (λ (w : StepsRow). w.told) e))
steps_one (Err s) (Err t) e = ap₂ (λ (x : Refusal) (k : ℕ). Err (record { refusal = x; done = k })) (told_one s.refusal t.refusal (ap (λ (w : StepsRow). w.told) e)) (ap (λ (w : StepsRow). w.done) e)

-- so is what the buffer of the step call holds
pub steps_answers_equal : (N : OnNetwork) (r list : List ℕ) (x y : Result ℕ Stopped) (left right : List ℕ)
    → (steps_said x ≡ steps_row N r list) × (left ≡ steps_left N r list)
    → (steps_said y ≡ steps_row N r list) × (right ≡ steps_left N r list)
    → (x ≡ y) × (left ≡ right)
steps_answers_equal N r list x y left right p q = (steps_one x y (equation_pins p.0 q.0), equation_pins p.1 q.1)

equation_one : (x y : Result Bool Refusal) → equation_said x ≡ equation_said y → x ≡ y
equation_one (Ok a) (Ok b) e = ap Ok (ap (λ (w : EquationRow). w.yes) e)
equation_one (Ok a) (Err r) e = absurd (told_not_done r (sym (ap (λ (w : EquationRow). w.told) e)))
equation_one (Err r) (Ok b) e = absurd (told_not_done r (ap (λ (w : EquationRow). w.told) e))
equation_one (Err r) (Err s) e = ap Err (told_one r s (ap (λ (w : EquationRow). w.told) e))

pub equation_answers_equal : (N : OnNetwork) (r : List ℕ) (x y : Result Bool Refusal) → equation_said x ≡ equation_row N r → equation_said y ≡ equation_row N r → x ≡ y
equation_answers_equal N r x y p q = equation_one x y (equation_pins p q)

-- ---- the checks

pub ready_one : (N : OnNetwork) (r : List ℕ) (x y : Result (PerPlace Component) Refusal) → MatricesReady N r x → MatricesReady N r y → x ≡ y
ready_one N r = one_ready N.language (equation_check N r) (MatricesReady N r) (λ p o. (o.0, o.1)) (λ x e. e)
