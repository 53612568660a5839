-- Two answers that meet one contract are equal.
use Prim.Native.Nat.{ℕ}
use mathlib.Core.Path.{◌≡◌, refl, sym, ap, ◌∙◌}
use mathlib.Core.List.{List}
use native.Mathlib.Omega.{arith}
use Rattle.refusals.specs.Checks.{answer_told, Check}
use Rattle.refusals.proofs.OneToOne.{told_one, told_not_done, answer_one}
use Rattle.handover.specs.declared.Lender.{Lender}
use Rattle.handover.specs.declared.Lender.TheVariants.{Newer, Standing}
use Rattle.std.specs.Prelude.{Result, Ok, Err}
use Rattle.handover.specs.Calls.{handover_check, LenderRow, lender_row, lender_said, lent_row, lent_start}
use Rattle.handover.specs.Parts.{HandoverReady}
use Rattle.guards.specs.OnNetwork.{OnNetwork}
use Rattle.guards.proofs.Unique.{one_ready}
use Rattle.weights.specs.declared.PerPlace.{PerPlace}
use Rattle.weights.specs.declared.Component.{Component}
use Rattle.refusals.specs.declared.Refusal.{Refusal}

lender_one : (x y : Result Lender Refusal) → lender_said x ≡ lender_said y → x ≡ y
lender_one (Ok Newer) (Ok Newer) e = refl
lender_one (Ok Newer) (Ok Standing) e = absurd (let z : ◌≡◌ {A = ℕ} 2 5 = ap (λ (w : LenderRow). w.buffer) e in omega arith)
lender_one (Ok Newer) (Err r) e = absurd (told_not_done r (sym (ap (λ (w : LenderRow). w.told) e)))
lender_one (Ok Standing) (Ok Newer) e = absurd (let z : ◌≡◌ {A = ℕ} 5 2 = ap (λ (w : LenderRow). w.buffer) e in omega arith)
lender_one (Ok Standing) (Ok Standing) e = refl
lender_one (Ok Standing) (Err r) e = absurd (told_not_done r (sym (ap (λ (w : LenderRow). w.told) e)))
lender_one (Err r) (Ok Newer) e = absurd (told_not_done r (ap (λ (w : LenderRow). w.told) e))
lender_one (Err r) (Ok Standing) e = absurd (told_not_done r (ap (λ (w : LenderRow). w.told) e))
lender_one (Err r) (Err s) e = ap Err (told_one r s (ap (λ (w : LenderRow). w.told) e))

module _ (N : OnNetwork) (standing newer : List ℕ) (i : ℕ) where
  pub lender_answers_equal : (x y : Result Lender Refusal) → lender_said x ≡ lender_row N standing newer i → lender_said y ≡ lender_row N standing newer i → x ≡ y
  lender_answers_equal x y p q = lender_one x y (p ∙ sym q)

  pub refusal_answers_equal : (x y : Check) → answer_told x ≡ answer_told (handover_check N standing newer i) → answer_told y ≡ answer_told (handover_check N standing newer i) → x ≡ y
  refusal_answers_equal x y p q = answer_one x y (p ∙ sym q)

  -- two parts that are lent have the same words and stand at the same place
  pub lent_parts_equal : (v w : ℕ × ℕ) (xs ys : List ℕ) (x y : ℕ × ℕ) → (xs ≡ lent_row N standing newer i) × (x ≡ lent_start N standing newer i v w)
      → (ys ≡ lent_row N standing newer i) × (y ≡ lent_start N standing newer i v w) → (xs ≡ ys) × (x ≡ y)
  lent_parts_equal v w xs ys x y p q = (p.0 ∙ sym q.0, p.1 ∙ sym q.1)

  pub handover_ready_one : (x y : Result (PerPlace Component) Refusal) → HandoverReady N standing newer i x → HandoverReady N standing newer i y → x ≡ y
  handover_ready_one = one_ready N.language (handover_check N standing newer i) (HandoverReady N standing newer i) (λ p k. (k.passes, k.in_places)) (λ x e. e)
