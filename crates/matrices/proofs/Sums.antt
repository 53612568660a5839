-- Sums stay small: the arcs as a network, and that what any steps make of the fresh matrix, and the best weights, have sums of at most 983,025.
use Prim.Native.Nat.{ℕ, ◌+◌, ◌≤◌, ◌<◌, max}
use mathlib.Core.Path.{◌≡◌, refl}
use mathlib.Core.Bool.{true}
use mathlib.Core.List.{List, [], ◌∷◌}
use native.Mathlib.Omega.{arith}
use borrow.Author.Tests.{le-leb}
use Rattle.algebra.specs.Best.{OfSimplePath, best}
use Rattle.algebra.specs.Step.{Step, reached}
use Rattle.algebra.specs.Network.{Network}
use Rattle.algebra.proofs.Bests.{held_valid, best_is}
use Rattle.algebra.proofs.Reach.{entry_held}
use Rattle.algebra.proofs.Bound.{Size, held_fits}
use Rattle.weights.specs.declared.Component.{Component}
use Rattle.weights.specs.declared.Component.TheVariants.{Dist, Width, Class, Gain}
use Rattle.weights.specs.declared.PerPlace.{PerPlace}
use Rattle.weights.specs.Sizes.{places, arc_sum, matrix_sum}
use Rattle.weights.specs.Weights.{Weight, none, route, Valid, ValidValue, ValidValues, join_value, join_values, join, unit_value, unit_values, language}
use Rattle.weights.specs.Languages.{places_of, SmallLimit, SmallLimits}
use Rattle.weights.specs.Values.{AtMost, AllAtMost}
use Rattle.weights.proofs.Languages.{lawful}
use Rattle.matrices.specs.Buffers.{matrix_in}
use Rattle.matrices.specs.Steps.{sum_fits, sums_fit, weight_fits, GivenArcs, Given}
use Rattle.matrices.proofs.Bounds.{Within, formed_valid, formed_most}

-- ---- the largest sum of a weight

abbrev sum_of : Component → ℕ → ℕ
sum_of Dist v = v
sum_of (Width w) v = 0
sum_of (Class k) v = 0
sum_of Gain v = v

abbrev sums_of : List Component → List ℕ → ℕ
sums_of [] xs = 0
sums_of (c ∷ cs) [] = 0
sums_of (c ∷ cs) (x ∷ xs) = max (sum_of c x) (sums_of cs xs)

abbrev largest : List Component → Weight → ℕ
largest cs none = 0
largest cs (route xs) = sums_of cs xs

join_sum : (c : Component) (x y : ℕ) → sum_of c (join_value c x y) ≤ sum_of c x + sum_of c y
join_sum Dist x y = omega arith
join_sum (Width w) x y = omega arith
join_sum (Class k) x y = omega arith
join_sum Gain x y = omega arith

join_sums : (cs : List Component) (xs ys : List ℕ) → sums_of cs (join_values cs xs ys) ≤ sums_of cs xs + sums_of cs ys
join_sums [] xs ys = omega arith
join_sums (c ∷ cs) [] ys = omega arith
join_sums (c ∷ cs) (x ∷ xs) [] = omega arith
join_sums (c ∷ cs) (x ∷ xs) (y ∷ ys) = omega (arith, join_sum c x y, join_sums cs xs ys)

join_largest : (cs : List Component) (x y : Weight) → largest cs (join cs x y) ≤ largest cs x + largest cs y
join_largest cs none y = omega arith
join_largest cs (route xs) none = omega arith
join_largest cs (route xs) (route ys) = join_sums cs xs ys

unit_sum : (c : Component) → sum_of c (unit_value c) ≡ 0
unit_sum Dist = refl
unit_sum (Width w) = refl
unit_sum (Class k) = refl
unit_sum Gain = refl

unit_sums : (cs : List Component) → sums_of cs (unit_values cs) ≡ 0
unit_sums [] = refl
unit_sums (c ∷ cs) = omega (arith, unit_sum c, unit_sums cs)

-- the largest sum adds up under join
sized : (cs : List Component) → Size (language cs) (largest cs)
sized cs = record { of_unit = unit_sums cs; of_none = refl; of_join = join_largest cs }

-- ---- from the largest sum to all values

sum_below : (b : ℕ) (c : Component) (v : ℕ) → v ≤ b → sum_of c v ≤ b
sum_below b Dist v h = h
sum_below b (Width w) v h = omega arith
sum_below b (Class k) v h = omega arith
sum_below b Gain v h = h

sums_below : (b : ℕ) (cs : List Component) (xs : List ℕ) → AllAtMost b xs → sums_of cs xs ≤ b
sums_below b [] xs h = omega arith
sums_below b (c ∷ cs) [] h = omega arith
sums_below b (c ∷ cs) (x ∷ xs) h = omega (arith, sum_below b c x h.0, sums_below b cs xs h.1)

most_largest : (b : ℕ) (cs : List Component) (w : Weight) → AtMost b w → largest cs w ≤ b
most_largest b cs none h = omega arith
most_largest b cs (route xs) h = sums_below b cs xs h

value_most : (b : ℕ) (c : Component) (v : ℕ) → arc_sum ≤ b → SmallLimit 65535 c → ValidValue c v → sum_of c v ≤ b → v ≤ b
value_most b Dist v l s h e = e
value_most b (Width w) v l s h e = omega (arith, h.1)
value_most b (Class k) v l s h e = omega arith
value_most b Gain v l s h e = e

values_most : (b : ℕ) (cs : List Component) (xs : List ℕ) → arc_sum ≤ b → SmallLimits 65535 cs → ValidValues cs xs → sums_of cs xs ≤ b → AllAtMost b xs
values_most b [] [] l s h e = tt
values_most b [] (x ∷ xs) l s h e = absurd h
values_most b (c ∷ cs) [] l s h e = absurd h
values_most b (c ∷ cs) (x ∷ xs) l s h e = (value_most b c x l s.0 h.0 (omega arith), values_most b cs xs l s.1 h.1 (omega arith))

largest_most : (b : ℕ) (cs : List Component) (w : Weight) → arc_sum ≤ b → SmallLimits 65535 cs → Valid cs w → largest cs w ≤ b → AtMost b w
largest_most b cs none l s h e = tt
largest_most b cs (route xs) l s h e = values_most b cs xs l s h e

sum_fits_lem : (c : Component) (v : ℕ) → sum_of c v ≤ matrix_sum → sum_fits c v ≡ true
sum_fits_lem Dist v h = le-leb v matrix_sum h
sum_fits_lem (Width w) v h = refl
sum_fits_lem (Class k) v h = refl
sum_fits_lem Gain v h = le-leb v matrix_sum h

sums_fit_lem : (cs : List Component) (xs : List ℕ) → sums_of cs xs ≤ matrix_sum → sums_fit cs xs ≡ true
sums_fit_lem [] xs h = refl
sums_fit_lem (c ∷ cs) [] h = refl
sums_fit_lem (c ∷ cs) (x ∷ xs) h = rw (sum_fits_lem c x (omega arith), sums_fit_lem cs xs (omega arith))

largest_fits : (cs : List Component) (w : Weight) → largest cs w ≤ matrix_sum → weight_fits cs w ≡ true
largest_fits cs none h = refl
largest_fits cs (route xs) h = sums_fit_lem cs xs h

-- a weight none of whose values is above 983,025
pub most_fits : (cs : List Component) (w : Weight) → AtMost matrix_sum w → weight_fits cs w ≡ true
most_fits cs w h = largest_fits cs w (most_largest matrix_sum cs w h)

-- ---- the network

-- what a settle step is given, without its routes
pub arcs_of_lem : (p : PerPlace Component) (n : ℕ) (a r : List ℕ) → Given (places_of p) n a r → GivenArcs (places_of p) n a
arcs_of_lem p n a r g = record { limits = g.limits; sound = g.sound; law_d_holds = g.law_d_holds; law_u_holds = g.law_u_holds; arcs = g.arcs }

module _ (p : PerPlace Component) (n : ℕ) (a : List ℕ) (g : GivenArcs (places_of p) n a) where
  -- well-formed arcs of a lawful language are a network
  unfoldable pub network : Network
  network = record {
    𝓐 = language (places_of p);
    𝓛 = lawful (places_of p) g.sound g.law_d_holds g.law_u_holds;
    n = n;
    A = matrix_in places n a;
    arcs_valid = formed_valid arc_sum p n a g.arcs;
  }

  arc_small : (i k : ℕ) → i < n → k < n → largest (places_of p) (matrix_in places n a i k) ≤ arc_sum
  arc_small i k hi hk = most_largest arc_sum (places_of p) (matrix_in places n a i k) (formed_most arc_sum p n a (omega arith) g.limits g.arcs i k hi hk)

  -- the weight of a path that visits no node twice: fifteen arcs at most
  held_largest : (i j : ℕ) (w : Weight) → OfSimplePath (language (places_of p)) n (matrix_in places n a) i j w → largest (places_of p) w ≤ matrix_sum
  held_largest i j w h = held_fits (language (places_of p)) (largest (places_of p)) (sized (places_of p)) n (matrix_in places n a) arc_sum arc_small 15 g.arcs.square.few i j w h

  held_within : (i j : ℕ) (w : Weight) → OfSimplePath (language (places_of p)) n (matrix_in places n a) i j w → Within matrix_sum (places_of p) w
  unfolding network
  held_within i j w h =
      let v : Valid (places_of p) w = held_valid network h in
      record { valid = v; most = largest_most matrix_sum (places_of p) w (omega arith) g.limits v (held_largest i j w h) }

  -- what any steps make of the fresh matrix
  pub reached_within : (steps : List Step) (i j : ℕ) → i < n → Within matrix_sum (places_of p) (reached (language (places_of p)) n (matrix_in places n a) steps i j)
  unfolding network
  reached_within steps i j hi = held_within i j _ (entry_held network steps i j hi)

  -- the best weights
  pub best_within : (i j : ℕ) → i < n → Within matrix_sum (places_of p) (best (language (places_of p)) n (matrix_in places n a) i j)
  unfolding network
  best_within i j hi = held_within i j _ (best_is network i j hi).held
