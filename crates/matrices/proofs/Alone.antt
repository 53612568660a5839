-- A language of one component: the join of two of its weights has no value but the first.
use Prim.Native.Nat.{ℕ}
use mathlib.Core.Path.{◌≡◌, refl, sym, ap, ap₂, ◌∙◌, subst}
use mathlib.Core.List.{[], ◌∷◌}
use native.Mathlib.Omega.{arith}
use Rattle.weights.specs.declared.Component.{Component}
use Rattle.weights.specs.declared.Component.TheVariants.{Class}
use Rattle.weights.specs.declared.PerPlace.{PerPlace}
use Rattle.weights.specs.declared.Weight as declared
use Rattle.weights.specs.declared.Weight.TheVariants.{Route}
use Rattle.weights.specs.Weights.{Weight, none, route, Valid, ValidValue, join, join_value}
use Rattle.weights.specs.Languages.{places_of}
use Rattle.weights.specs.Values.{weight_of}
use Rattle.weights.proofs.Ordering.{join_valid1}
use Rattle.matrices.specs.Parts.{FirstAlone, Single, first_only}

no_value : (c : Component) (v : ℕ) → c ≡ Class 0 → ValidValue c v → v ≡ 0
no_value c v e h = let k : ValidValue (Class 0) v = subst (λ (d : Component). ValidValue d v) e h in omega (arith, k)

join_zero : (c : Component) (x y : ℕ) → c ≡ Class 0 → ValidValue c x → ValidValue c y → join_value c x y ≡ 0
join_zero c x y e p q = no_value c (join_value c x y) e (join_valid1 c x y p q)

pub first_alone : (p : PerPlace Component) → Single p → (x y : Weight) → Valid (places_of p) x → Valid (places_of p) y → FirstAlone (places_of p) x y
first_alone p s x y v w = record { alone = go x y v w }
  where
    go : (x y : Weight) → Valid (places_of p) x → Valid (places_of p) y → join (places_of p) x y ≡ first_only (join (places_of p) x y)
    go none y v w = refl
    go (route xs) none v w = refl
    go (route []) (route ys) v w = absurd v
    go (route (a ∷ [])) (route ys) v w = absurd v.1
    go (route (a ∷ b ∷ [])) (route ys) v w = absurd v.1.1
    go (route (a ∷ b ∷ c ∷ [])) (route ys) v w = absurd v.1.1.1
    go (route (a ∷ b ∷ c ∷ d ∷ xs)) (route []) v w = absurd w
    go (route (a ∷ b ∷ c ∷ d ∷ xs)) (route (e ∷ [])) v w = absurd w.1
    go (route (a ∷ b ∷ c ∷ d ∷ xs)) (route (e ∷ f ∷ [])) v w = absurd w.1.1
    go (route (a ∷ b ∷ c ∷ d ∷ xs)) (route (e ∷ f ∷ g ∷ [])) v w = absurd w.1.1.1
    go (route (a ∷ b ∷ c ∷ d ∷ xs)) (route (e ∷ f ∷ g ∷ h ∷ ys)) v w =
        rw (join_zero p.second b f s.second v.1.0 w.1.0, join_zero p.third c g s.third v.1.1.0 w.1.1.0, join_zero p.fourth d h s.fourth v.1.1.1.0 w.1.1.1.0)

-- two routes joined by their first values
pub one_is : (p : PerPlace Component) (x y : declared.Weight) (a b c d e f g h i : ℕ) → x ≡ Route a b c d → y ≡ Route e f g h → FirstAlone (places_of p) (weight_of x) (weight_of y)
    → i ≡ join_value p.first a e → route (i ∷ 0 ∷ 0 ∷ 0 ∷ []) ≡ join (places_of p) (weight_of x) (weight_of y)
one_is p x y a b c d e f g h i q r l t =
    let l' : FirstAlone (places_of p) (route (a ∷ b ∷ c ∷ d ∷ [])) (route (e ∷ f ∷ g ∷ h ∷ [])) = subst (λ (w : declared.Weight). FirstAlone (places_of p) (route (a ∷ b ∷ c ∷ d ∷ [])) (weight_of w)) r (subst (λ (w : declared.Weight). FirstAlone (places_of p) (weight_of w) (weight_of y)) q l) in
    ap (λ (v : ℕ). route (v ∷ 0 ∷ 0 ∷ 0 ∷ [])) t ∙ sym l'.alone ∙ ap₂ (λ (u w : declared.Weight). join (places_of p) (weight_of u) (weight_of w)) (sym q) (sym r)
