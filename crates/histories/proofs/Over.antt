-- The test of refusal 11 fails exactly where a sum above 983,025 would be stored.
use Prim.Native.Nat.{ℕ, zero, suc, ◌<◌}
use mathlib.Core.Path.{◌≡◌, refl, sym, subst}
use mathlib.Core.Bool.{Bool, true, false, ◌&&◌, false≢true}
use mathlib.Core.List.{List, [], ◌∷◌}
use mathlib.Core.Logic.{◌⊎◌, inl, inr, ◌↔◌}
use native.Mathlib.Omega.{arith}
use borrow.Author.Tests.{leb-false, lt-leb}
use lib.Dec.{leb}
use Rattle.algebra.specs.Step.{Step, row, settle, routed}
use Rattle.weights.specs.declared.Component.{Component}
use Rattle.weights.specs.declared.Component.TheVariants.{Dist, Width, Class, Gain}
use Rattle.weights.specs.Sizes.{matrix_sum}
use Rattle.weights.specs.Weights.{Weight, none, route, language}
use Rattle.weights.proofs.Ordering.{clash}
use Rattle.matrices.specs.Steps.{Matrix, sum_fits, sums_fit, weight_fits, every, row_fits}
use Rattle.matrices.proofs.Every.{every_false}
use Rattle.routes.specs.Calls.{step_fits}
use Rattle.routes.specs.Stops.{IsSum, SumOver, WeightOver, RowOver, StepOver}

-- one of two tests fails
neither : (a b : Bool) → (a && b) ≡ false → (a ≡ false) ⊎ (b ≡ false)
neither true b e = inr e
neither false b e = inl refl

one_fails : (a b : Bool) → (a ≡ false) ⊎ (b ≡ false) → (a && b) ≡ false
one_fails true b (inl e) = absurd (false≢true (sym e))
one_fails true b (inr e) = e
one_fails false b x = refl

over_leb : (v : ℕ) → (leb v matrix_sum ≡ false) ↔ (matrix_sum < v)
over_leb v = (leb-false v matrix_sum, lt-leb v matrix_sum)

sum_over : (c : Component) (v : ℕ) → (sum_fits c v ≡ false) ↔ (IsSum c × (matrix_sum < v))
sum_over Dist v = (λ e. (tt, (over_leb v).0 e), λ h. (over_leb v).1 h.1)
sum_over (Width w) v = (λ e. absurd (false≢true (sym e)), λ h. absurd h.0)
sum_over (Class c) v = (λ e. absurd (false≢true (sym e)), λ h. absurd h.0)
sum_over Gain v = (λ e. (tt, (over_leb v).0 e), λ h. (over_leb v).1 h.1)

sums_over : (cs : List Component) (xs : List ℕ) → (sums_fit cs xs ≡ false) ↔ SumOver cs xs
sums_over [] xs = (λ e. absurd (false≢true (sym e)), λ h. absurd h)
sums_over (c ∷ cs) [] = (λ e. absurd (false≢true (sym e)), λ h. absurd h)
sums_over (c ∷ cs) (x ∷ xs) = (λ e. there (neither (sum_fits c x) (sums_fit cs xs) e) (sums_over cs xs).0, λ h. one_fails (sum_fits c x) (sums_fit cs xs) (back h (sums_over cs xs).1))
  where
    there : (sum_fits c x ≡ false) ⊎ (sums_fit cs xs ≡ false) → (sums_fit cs xs ≡ false → SumOver cs xs) → (IsSum c × (matrix_sum < x)) ⊎ SumOver cs xs
    there (inl e) ih = inl ((sum_over c x).0 e)
    there (inr e) ih = inr (ih e)

    back : (IsSum c × (matrix_sum < x)) ⊎ SumOver cs xs → (SumOver cs xs → sums_fit cs xs ≡ false) → (sum_fits c x ≡ false) ⊎ (sums_fit cs xs ≡ false)
    back (inl h) ih = inl ((sum_over c x).1 h)
    back (inr h) ih = inr (ih h)

weight_over : (cs : List Component) (w : Weight) → (weight_fits cs w ≡ false) ↔ WeightOver cs w
weight_over cs none = (λ e. absurd (false≢true (sym e)), λ h. absurd h)
weight_over cs (route xs) = sums_over cs xs

some_fails : (t : ℕ → Bool) (n : ℕ) → every n t ≡ false → (j : ℕ) × (j < n) × (t j ≡ false)
unfolding every
some_fails t zero e = absurd (false≢true (sym e))
some_fails t (suc n) e = go (neither (every n t) (t n) e) (some_fails t n)
  where
    go : (every n t ≡ false) ⊎ (t n ≡ false) → (every n t ≡ false → (j : ℕ) × (j < n) × (t j ≡ false)) → (j : ℕ) × (j < suc n) × (t j ≡ false)
    go (inl f) ih = let (j, h, g) = ih f in (j, omega arith, g)
    go (inr f) ih = (n, omega arith, f)

pub row_over : (cs : List Component) (n : ℕ) (A R : Matrix) (i : ℕ) → (row_fits cs n A R i ≡ false) ↔ RowOver cs n A R i
row_over cs n A R i = (
  λ e. there (some_fails (λ j. weight_fits cs (routed (language cs) n A R i j)) n e),
  λ h. back h,
)
  where
    there : (j : ℕ) × (j < n) × (weight_fits cs (routed (language cs) n A R i j) ≡ false) → RowOver cs n A R i
    there (j, h, e) = (j, h, (weight_over cs (routed (language cs) n A R i j)).0 e)

    back : RowOver cs n A R i → row_fits cs n A R i ≡ false
    back (j, h, o) = every_false (λ j. weight_fits cs (routed (language cs) n A R i j)) n j h ((weight_over cs (routed (language cs) n A R i j)).1 o)

pub step_over : (cs : List Component) (n : ℕ) (A R : Matrix) (s : Step) → (step_fits cs n A R s ≡ false) ↔ StepOver cs n A R s
step_over cs n A R (row i) = (λ e. (i, refl, (row_over cs n A R i).0 e), back)
  where
    back : StepOver cs n A R (row i) → row_fits cs n A R i ≡ false
    back (k, e, o) = let q : i ≡ k = cc in (row_over cs n A R i).1 (subst (RowOver cs n A R) (sym q) o)
step_over cs n A R (settle j) = (λ e. absurd (false≢true (sym e)), back)
  where
    back : StepOver cs n A R (settle j) → true ≡ false
    back (k, e, o) = let z : ◌≡◌ {A = ℕ} 0 1 = cc in absurd (omega arith)

-- a step fits exactly where it would store no such sum
pub step_fits_lem : (cs : List Component) (n : ℕ) (A R : Matrix) (s : Step) → (step_fits cs n A R s ≡ true) ↔ (StepOver cs n A R s → ⊥)
step_fits_lem cs n A R s = (λ e o. clash (step_fits cs n A R s) e ((step_over cs n A R s).1 o), λ f. go (step_fits cs n A R s) refl f)
  where
    go : (b : Bool) → step_fits cs n A R s ≡ b → (StepOver cs n A R s → ⊥) → step_fits cs n A R s ≡ true
    go true e f = e
    go false e f = absurd (f ((step_over cs n A R s).0 e))
