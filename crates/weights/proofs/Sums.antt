-- The sum at a component (dist or gain): it adds up under join at most, and is at most the cap that a reading was given.
use Prim.Native.Nat.{ℕ, zero, suc, ◌+◌, ◌≤◌}
use mathlib.Core.Path.{◌≡◌, refl}
use mathlib.Core.Bool.{true, false, and-eq-true_iff}
use mathlib.Core.List.{List, [], ◌∷◌}
use native.Mathlib.Omega.{arith}
use lib.ListN.{length, take}
use borrow.Author.Tests.{leb-true}
use Rattle.algebra.proofs.Bound.{Size}
use Rattle.weights.specs.declared.Component.{Component}
use Rattle.weights.specs.declared.Component.TheVariants.{Dist, Width, Class, Gain}
use Rattle.weights.specs.Weights.{Weight, none, route, join_values, unit_values, join, language}
use Rattle.weights.specs.Sums.{sum_here, sum_of, sum_at}
use Rattle.weights.specs.Words.{in_range, fits, decoded}
use Rattle.weights.proofs.Ordering.{clash}
use Rattle.weights.proofs.Readings.{Well, no_route, values}

sum_unit : (cs : List Component) (c : ℕ) → sum_of cs c (unit_values cs) ≡ 0
sum_unit [] c = refl
sum_unit (Dist ∷ cs) zero = refl
sum_unit (Width w ∷ cs) zero = refl
sum_unit (Class k ∷ cs) zero = refl
sum_unit (Gain ∷ cs) zero = refl
sum_unit (k ∷ cs) (suc c) = sum_unit cs c

sum_join : (cs : List Component) (c : ℕ) (xs ys : List ℕ) → sum_of cs c (join_values cs xs ys) ≤ sum_of cs c xs + sum_of cs c ys
sum_join [] c xs ys = omega arith
sum_join (k ∷ cs) c [] ys = omega arith
sum_join (k ∷ cs) c (x ∷ xs) [] = omega arith
sum_join (Dist ∷ cs) zero (x ∷ xs) (y ∷ ys) = omega arith
sum_join (Width w ∷ cs) zero (x ∷ xs) (y ∷ ys) = omega arith
sum_join (Class k ∷ cs) zero (x ∷ xs) (y ∷ ys) = omega arith
sum_join (Gain ∷ cs) zero (x ∷ xs) (y ∷ ys) = omega arith
sum_join (k ∷ cs) (suc c) (x ∷ xs) (y ∷ ys) = sum_join cs c xs ys

sum_joined : (cs : List Component) (c : ℕ) (x y : Weight) → sum_at cs c (join cs x y) ≤ sum_at cs c x + sum_at cs c y
sum_joined cs c none y = omega arith
sum_joined cs c (route xs) none = omega arith
sum_joined cs c (route xs) (route ys) = sum_join cs c xs ys

pub sum_size : (cs : List Component) (c : ℕ) → Size (language cs) (sum_at cs c)
sum_size cs c = record { of_unit = sum_unit cs c; of_none = refl; of_join = sum_joined cs c }

-- ---- what was read has small sums

in_range_sum : (cap : ℕ) (k : Component) (v : ℕ) → in_range cap k v ≡ true → sum_here k v ≤ cap
in_range_sum cap Dist v e = leb-true v cap e
in_range_sum cap (Width w) v e = omega arith
in_range_sum cap (Class k) v e = omega arith
in_range_sum cap Gain v e = leb-true v cap e

fits_sum : (cap : ℕ) (cs : List Component) (c : ℕ) (ws : List ℕ) → fits cap cs ws ≡ true → sum_of cs c (take (length cs) ws) ≤ cap
fits_sum cap [] c ws e = omega arith
fits_sum cap (k ∷ cs) c [] e = clash false e refl
fits_sum cap (k ∷ cs) zero (x ∷ ws) e = in_range_sum cap k x ((and-eq-true_iff (in_range cap k x) (fits cap cs ws)).0 e).0
fits_sum cap (k ∷ cs) (suc c) (x ∷ ws) e = fits_sum cap cs c ws ((and-eq-true_iff (in_range cap k x) (fits cap cs ws)).0 e).1

pub well_sum : (cap : ℕ) (cs : List Component) (c : ℕ) (ws : List ℕ) → Well cap cs ws → sum_at cs c (decoded (length cs) ws) ≤ cap
well_sum cap cs c ws (no_route e) = rw e (omega arith)
well_sum cap cs c ws (values e f) = rw e (fits_sum cap cs c ws f)
