-- What the contracts say of a weight, a reading or a check pins it: two answers that meet one contract are equal.
use mathlib.Core.Path.{◌≡◌, refl, sym, ap, ◌∙◌}
use mathlib.Core.Bool.{true, false}
use Rattle.refusals.proofs.First.{passed_not, refused_one}
use Rattle.weights.specs.declared.Language.{Language}
use Rattle.weights.specs.declared.PerPlace.{PerPlace}
use Rattle.weights.specs.declared.Component.{Component}
use Rattle.weights.specs.declared.Weight as declared
use Rattle.weights.specs.declared.Weight.TheVariants.{Route, NoRoute}
use Rattle.weights.specs.Languages.{places_of, CheckSays}
use Rattle.weights.specs.Values.{weight_of}
use Rattle.weights.specs.Words.{read_of}
use Rattle.weights.proofs.Ordering.{clash}
use Rattle.std.specs.Prelude.{Result, Option, Ok, Err, Some, None}
use Rattle.refusals.specs.declared.Refusal.{Refusal}

pub weight_one : (x y : declared.Weight) → weight_of x ≡ weight_of y → x ≡ y
weight_one (Route a b c d) (Route e f g h) p = cc
weight_one (Route a b c d) NoRoute p = let z : true ≡ false = cc in clash true refl z
weight_one NoRoute (Route e f g h) p = let z : true ≡ false = cc in clash true refl z
weight_one NoRoute NoRoute p = refl

pub read_one : (x y : Option declared.Weight) → read_of x ≡ read_of y → x ≡ y
read_one (Some v) (Some w) p = ap Some (weight_one v w (cc))
read_one (Some v) None p = let z : true ≡ false = cc in clash true refl z
read_one None (Some w) p = let z : true ≡ false = cc in clash true refl z
read_one None None p = refl

pub places_one : (p q : PerPlace Component) → places_of p ≡ places_of q → p ≡ q
places_one p q e = λ i. record { first = a i; second = b i; third = c i; fourth = d i }
  where
    a : p.first ≡ q.first
    a = cc

    b : p.second ≡ q.second
    b = cc

    c : p.third ≡ q.third
    c = cc

    d : p.fourth ≡ q.fourth
    d = cc

pub checked_one : (l : Language) (x y : Result (PerPlace Component) Refusal) → CheckSays l x → CheckSays l y → x ≡ y
checked_one l (Ok p) (Ok q) h k = ap Ok (places_one p q (h.1 ∙ sym k.1))
checked_one l (Ok p) (Err r) h k = absurd (passed_not r (sym h.0 ∙ k))
checked_one l (Err r) (Ok q) h k = absurd (passed_not r (sym k.0 ∙ h))
checked_one l (Err r) (Err s) h k = ap Err (refused_one (sym h ∙ k))
