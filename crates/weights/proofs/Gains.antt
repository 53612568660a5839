-- A join that loses by its first value leaves the weight as it was.
use Prim.Native.Nat.{ℕ}
use mathlib.Core.Path.{◌≡◌, refl}
use mathlib.Core.Bool.{true, false}
use mathlib.Core.List.{List, [], ◌∷◌}
use native.Mathlib.Omega.{arith}
use borrow.Author.Tests.{le-ltb}
use Rattle.algebra.specs.Order.{pick}
use Rattle.weights.specs.declared.Component.{Component}
use Rattle.weights.specs.declared.Component.TheVariants.{Dist, Width, Class, Gain}
use Rattle.weights.specs.Weights.{Weight, none, route, better, better_of, better_value, better_values, join, join_value, join_values}
use Rattle.weights.specs.Gains.{loses_values, loses}
use Rattle.weights.proofs.Ordering.{Three, ahead, level, behind, three1, lt_worse, clash, head_ahead, head_behind}

not_itself : (c : Component) (x y : ℕ) → x ≡ y → better_value c x y ≡ false
not_itself Dist x y e = le-ltb x y (omega arith)
not_itself (Width w) x y e = le-ltb y x (omega arith)
not_itself (Class k) x y e = le-ltb x y (omega arith)
not_itself Gain x y e = le-ltb y x (omega arith)

values_lose : (cs : List Component) (ws xs ys : List ℕ) → loses_values cs ws xs ys ≡ true → better_values cs (join_values cs xs ys) ws ≡ false
values_lose [] ws xs ys e = refl
values_lose (c ∷ cs) [] xs ys e = clash false e refl
values_lose (c ∷ cs) (w ∷ ws) [] ys e = clash false e refl
values_lose (c ∷ cs) (w ∷ ws) (x ∷ xs) [] e = clash false e refl
values_lose (c ∷ cs) (w ∷ ws) (x ∷ xs) (y ∷ ys) e = go (three1 c w (join_value c x y))
  where
    go : Three c w (join_value c x y) → better_values (c ∷ cs) (join_value c x y ∷ join_values cs xs ys) (w ∷ ws) ≡ false
    go (ahead p) = head_behind c cs w (join_value c x y) ws (join_values cs xs ys) p
    go (level q) = clash _ e (not_itself c w (join_value c x y) q)
    go (behind p) = clash _ e (lt_worse c (join_value c x y) w p)

values_win : (cs : List Component) (ws xs ys : List ℕ) → loses_values cs ws xs ys ≡ true → better_values cs ws (join_values cs xs ys) ≡ true
values_win [] ws xs ys e = clash false e refl
values_win (c ∷ cs) [] xs ys e = clash false e refl
values_win (c ∷ cs) (w ∷ ws) [] ys e = clash false e refl
values_win (c ∷ cs) (w ∷ ws) (x ∷ xs) [] e = clash false e refl
values_win (c ∷ cs) (w ∷ ws) (x ∷ xs) (y ∷ ys) e = go (three1 c w (join_value c x y))
  where
    go : Three c w (join_value c x y) → better_values (c ∷ cs) (w ∷ ws) (join_value c x y ∷ join_values cs xs ys) ≡ true
    go (ahead p) = head_ahead c cs w (join_value c x y) ws (join_values cs xs ys) p
    go (level q) = clash _ e (not_itself c w (join_value c x y) q)
    go (behind p) = clash _ e (lt_worse c (join_value c x y) w p)

-- the join is not better
pub no_gain : (cs : List Component) (w x y : Weight) → loses cs w x y ≡ true → better cs (join cs x y) w ≡ false
no_gain cs none x y e = clash false e refl
no_gain cs (route ws) none y e = refl
no_gain cs (route ws) (route xs) none e = refl
no_gain cs (route ws) (route xs) (route ys) e = values_lose cs ws xs ys e

-- it is worse
pub is_lost : (cs : List Component) (w x y : Weight) → loses cs w x y ≡ true → better cs w (join cs x y) ≡ true
is_lost cs none x y e = clash false e refl
is_lost cs (route ws) none y e = refl
is_lost cs (route ws) (route xs) none e = refl
is_lost cs (route ws) (route xs) (route ys) e = values_win cs ws xs ys e

-- the weight stays
pub loses_stays : (cs : List Component) (w x y : Weight) → loses cs w x y ≡ true → w ≡ better_of cs w (join cs x y)
unfolding pick
loses_stays cs w x y e = rw (no_gain cs w x y e)
