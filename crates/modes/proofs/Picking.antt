-- What the code chooses: the comparison's three answers as a test, and the better of two entries.
use mathlib.Core.Path.{◌≡◌, refl}
use mathlib.Core.Bool.{Bool, true, false, cond}
use mathlib.Core.List.{List}
use native.Mathlib.Omega.{arith}
use Prim.Native.Nat.{ℕ}
use Rattle.algebra.specs.Order.{Order, pick}
use Rattle.weights.specs.declared.Comparison.TheVariants.{Better, Equal, Worse}
use Rattle.weights.specs.declared.Component.{Component}
use Rattle.weights.specs.Weights.{Weight, better}
use Rattle.weights.specs.Values.{compared}
use Rattle.modes.specs.Entries.{first_then}

module _ (cs : List Component) (x y : Weight) (next : Bool) where
  -- better, worse, or neither and then the next test
  pub then_better : compared cs x y ≡ Better → first_then (better cs x y) (better cs y x) next ≡ true
  then_better = go (better cs x y) (better cs y x)
    where
      go : (a b : Bool) → cond a Better (cond b Worse Equal) ≡ Better → first_then a b next ≡ true
      go true b e = refl
      go false true e = let z : ◌≡◌ {A = ℕ} 0 1 = cc in absurd (omega arith)
      go false false e = let z : ◌≡◌ {A = ℕ} 0 1 = cc in absurd (omega arith)

  pub then_worse : compared cs x y ≡ Worse → first_then (better cs x y) (better cs y x) next ≡ false
  then_worse = go (better cs x y) (better cs y x)
    where
      go : (a b : Bool) → cond a Better (cond b Worse Equal) ≡ Worse → first_then a b next ≡ false
      go true b e = let z : ◌≡◌ {A = ℕ} 0 1 = cc in absurd (omega arith)
      go false true e = refl
      go false false e = let z : ◌≡◌ {A = ℕ} 0 1 = cc in absurd (omega arith)

  pub then_equal : compared cs x y ≡ Equal → first_then (better cs x y) (better cs y x) next ≡ next
  then_equal = go (better cs x y) (better cs y x)
    where
      go : (a b : Bool) → cond a Better (cond b Worse Equal) ≡ Equal → first_then a b next ≡ next
      go true b e = let z : ◌≡◌ {A = ℕ} 0 1 = cc in absurd (omega arith)
      go false true e = let z : ◌≡◌ {A = ℕ} 0 1 = cc in absurd (omega arith)
      go false false e = refl

-- the better of two
pub pick_second : (𝓞 : Order) (x y : 𝓞.Thing) → 𝓞.better y x ≡ true → pick 𝓞 x y ≡ y
unfolding pick
pick_second 𝓞 x y e = rw e

pub pick_first : (𝓞 : Order) (x y : 𝓞.Thing) → 𝓞.better y x ≡ false → pick 𝓞 x y ≡ x
unfolding pick
pick_first 𝓞 x y e = rw e
