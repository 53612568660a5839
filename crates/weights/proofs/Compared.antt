-- Comparing by the first difference, and what each of the three answers says of "better" and "same".
use Prim.Native.Nat.{ℕ}
use mathlib.Core.Path.{◌≡◌, refl, ap, ap₂, subst, ◌∙◌}
use mathlib.Core.Bool.{Bool, true, false, not, cond, ◌&&◌}
use mathlib.Core.List.{List, [], ◌∷◌}
use mathlib.Core.Logic.{◌↔◌}
use native.Mathlib.Omega.{arith}
use lib.Dec.{eqb}
use borrow.Author.Tests.{eq-eqb, eqb-true}
use Rattle.weights.specs.declared.Component.{Component}
use Rattle.weights.specs.declared.Comparison.{Comparison}
use Rattle.weights.specs.declared.Comparison.TheVariants.{Better, Equal, Worse}
use Rattle.weights.specs.Weights.{Weight, none, route, Valid, better_value, better}
use Rattle.weights.specs.Values.{is_route, compared, same, same_values}
use Rattle.weights.proofs.Ordering.{Three, ahead, level, behind, three1, lt_better, lt_worse, clash, irrefl, asym, antisym}

-- values that differ decide
pub differs : (c : Component) {x y : ℕ} {r : Comparison} → (x ≡ y → ⊥) → r ≡ cond (better_value c x y) Better Worse → r ≡ cond (better_value c x y) Better (cond (better_value c y x) Worse Equal)
differs c {x} {y} f e = e ∙ go (three1 c x y)
  where
    go : Three c x y → cond (better_value c x y) Better Worse ≡ cond (better_value c x y) Better (cond (better_value c y x) Worse Equal)
    go (ahead p) = rw (lt_better c x y p)
    go (level q) = absurd (f q)
    go (behind p) = rw (lt_worse c y x p, lt_better c y x p)

-- ---- no route against a weight

pub none_worse : (cs : List Component) (y : Weight) → is_route y ≡ true → Worse ≡ compared cs none y
none_worse cs none e = clash false e refl
none_worse cs (route ys) e = refl

pub none_equal : (cs : List Component) (y : Weight) → is_route y ≡ false → Equal ≡ compared cs none y
none_equal cs none e = refl
none_equal cs (route ys) e = clash true refl e

pub none_same : (y : Weight) → not (is_route y) ≡ same none y
none_same none = refl
none_same (route ys) = refl

-- ---- what the answers say

tag : Comparison → ℕ
tag Better = 0
tag Equal = 1
tag Worse = 2

apart : {A : Type 0} (x y : Comparison) → (tag x ≡ tag y → ⊥) → x ≡ y → A
apart x y f e = absurd (f (ap tag e))

pub is_better : (cs : List Component) (x y : Weight) → compared cs x y ≡ Better → better cs x y ≡ true
unfolding tag
is_better cs x y = go (better cs x y) (better cs y x)
  where
    go : (a b : Bool) → cond a Better (cond b Worse Equal) ≡ Better → a ≡ true
    go true b e = refl
    go false true e = apart Worse Better (λ q. omega arith) e
    go false false e = apart Equal Better (λ q. omega arith) e

pub is_equal : (cs : List Component) (x y : Weight) → compared cs x y ≡ Equal → better cs x y ≡ false
unfolding tag
is_equal cs x y = go (better cs x y) (better cs y x)
  where
    go : (a b : Bool) → cond a Better (cond b Worse Equal) ≡ Equal → a ≡ false
    go true b e = apart Better Equal (λ q. omega arith) e
    go false b e = refl

pub is_worse : (cs : List Component) (x y : Weight) → compared cs x y ≡ Worse → better cs x y ≡ false
unfolding tag
is_worse cs x y = go (better cs x y) (better cs y x)
  where
    go : (a b : Bool) → cond a Better (cond b Worse Equal) ≡ Worse → a ≡ false
    go true b e = apart Better Worse (λ q. omega arith) e
    go false b e = refl

-- equal exactly where the weights are the same, and worse exactly where the other is better
pub equal_same : (cs : List Component) (x y : Weight) → Valid cs x → Valid cs y → (compared cs x y ≡ Equal) ↔ (x ≡ y)
unfolding tag
equal_same cs x y vx vy = (λ e. antisym cs x y vx vy (there (better cs x y) (better cs y x) e) (is_equal cs x y e), λ e. rw (e, irrefl cs y))
  where
    there : (a b : Bool) → cond a Better (cond b Worse Equal) ≡ Equal → b ≡ false
    there true b e = apart Better Equal (λ q. omega arith) e
    there false true e = apart Worse Equal (λ q. omega arith) e
    there false false e = refl

pub worse_better : (cs : List Component) (x y : Weight) → (compared cs x y ≡ Worse) ↔ (better cs y x ≡ true)
unfolding tag
worse_better cs x y = (there (better cs x y) (better cs y x), λ e. rw (asym cs y x e, e))
  where
    there : (a b : Bool) → cond a Better (cond b Worse Equal) ≡ Worse → b ≡ true
    there true b e = apart Better Worse (λ q. omega arith) e
    there false true e = refl
    there false false e = apart Equal Worse (λ q. omega arith) e

-- ---- the test of equality

same_values_lem : (xs ys : List ℕ) → same_values xs ys ≡ true → xs ≡ ys
same_values_lem [] [] e = refl
same_values_lem [] (y ∷ ys) e = clash false e refl
same_values_lem (x ∷ xs) [] e = clash false e refl
same_values_lem (x ∷ xs) (y ∷ ys) e = go (eqb x y) refl e (same_values_lem xs ys)
  where
    go : (b : Bool) → eqb x y ≡ b → (b && same_values xs ys) ≡ true → (same_values xs ys ≡ true → xs ≡ ys) → x ∷ xs ≡ y ∷ ys
    go true p q ih = ap₂ ◌∷◌ (eqb-true x y p) (ih q)
    go false p q ih = clash false q refl

values_same : (xs : List ℕ) → same_values xs xs ≡ true
values_same [] = refl
values_same (x ∷ xs) = rw (eq-eqb x x refl) (values_same xs)

pub same_exactly : (x y : Weight) → (same x y ≡ true) ↔ (x ≡ y)
same_exactly none none = (λ e. refl, λ e. refl)
same_exactly none (route ys) = (λ e. clash false e refl, λ e. (let z : true ≡ false = cc in clash true refl z))
same_exactly (route xs) none = (λ e. clash false e refl, λ e. (let z : true ≡ false = cc in clash true refl z))
same_exactly (route xs) (route ys) = (λ e. ap route (same_values_lem xs ys e), λ e. subst (λ (w : Weight). same (route xs) w ≡ true) e (values_same xs))
