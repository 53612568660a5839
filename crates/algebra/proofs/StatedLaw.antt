-- Law D as 01 states it, and as the theorems use it ("joining keeps the order"): each gives the other.
use mathlib.Core.Path.{◌≡◌, refl, sym, ◌∙◌, ap, subst}
use mathlib.Core.Bool.{Bool, true, false, cond}
use Rattle.algebra.specs.Order.{Ordered, pick}
use Rattle.algebra.specs.Algebra.{Algebra, order}
use Rattle.algebra.proofs.Orders.{pick_is}

module _ (𝓐 : Algebra) (𝓞 : Ordered (order 𝓐)) (join_valid : (x y : 𝓐.Weight) → 𝓐.Valid x → 𝓐.Valid y → 𝓐.Valid (𝓐.join x y)) where
  open 𝓐 use {Weight, Valid, better, join}

  -- s joined with the better of x and y is the better of (s joined x) and (s joined y)
  abbrev pub Stated : Type 0
  Stated = (s x y : Weight) → Valid s → Valid x → Valid y → join s (pick (order 𝓐) x y) ≡ pick (order 𝓐) (join s x) (join s y)

  -- joining keeps the order
  abbrev pub Used : Type 0
  Used = (s x y : Weight) → Valid s → Valid x → Valid y → better y x ≡ false → better (join s y) (join s x) ≡ false

  pick_first : (x y : Weight) → better y x ≡ false → pick (order 𝓐) x y ≡ x
  unfolding pick
  pick_first x y e = rw e

  pick_second : (x y : Weight) → Valid x → Valid y → better x y ≡ false → pick (order 𝓐) x y ≡ y
  unfolding pick
  pick_second x y vx vy f = go (better y x) refl
    where
      go : (b : Bool) → better y x ≡ b → cond b y x ≡ y
      go true e = refl
      go false e = 𝓞.antisym x y vx vy e f

  pub stated_used : Stated → Used
  stated_used d s x y vs vx vy e =
      subst (λ (z : Weight). better (join s y) z ≡ false) (sym (d s x y vs vx vy) ∙ ap (join s) (pick_first x y e)) (pick_is (order 𝓐) 𝓞 (join s x) (join s y) (join_valid s x vs vx) (join_valid s y vs vy)).snd.test

  pub used_stated : Used → Stated
  used_stated d s x y vs vx vy = go (better y x) refl
    where
      go : (b : Bool) → better y x ≡ b → join s (pick (order 𝓐) x y) ≡ pick (order 𝓐) (join s x) (join s y)
      go false e = ap (join s) (pick_first x y e) ∙ sym (pick_first (join s x) (join s y) (d s x y vs vx vy e))
      go true e =
          let f : better x y ≡ false = 𝓞.asym x y vx vy e in
          ap (join s) (pick_second x y vx vy f) ∙ sym (pick_second (join s x) (join s y) (join_valid s x vs vx) (join_valid s y vs vy) (d s y x vs vy vx f))
