-- The comparisons of the three modes are total orders on weights with their t, whatever the laws of joins.
use Prim.Native.Nat.{ℕ}
use mathlib.Core.Path.{◌≡◌, refl, sym, ◌∙◌}
use mathlib.Core.Bool.{Bool, true, false, true≢false, false≢true}
use mathlib.Core.Logic.{◌⊎◌, inl, inr}
use mathlib.Core.List.{List}
use lib.Dec.{ltb}
use borrow.Author.Tests.{ltb-true, ltb-false, le-ltb}
use native.Mathlib.Omega.{arith}
use Rattle.algebra.specs.Order.{Order, Ordered}
use Rattle.algebra.specs.Algebra.{order}
use Rattle.weights.specs.declared.Component.{Component}
use Rattle.weights.specs.Weights.{Weight, Valid, language}
use Rattle.weights.proofs.Languages.{ordered}
use Rattle.modes.specs.declared.Mode.{Mode}
use Rattle.modes.specs.declared.Mode.TheVariants.{Plain, Hot, Cold}
use Rattle.modes.specs.Entries.{Comparing, first_then, by_weight, by_weight_then_t, by_t_then_weight, comparing, ValidT}

-- ---- one order, then another

pub then_split : (a b c : Bool) → first_then a b c ≡ false → (a ≡ false) × (b ≡ false → c ≡ false)
then_split true b c e = absurd (true≢false e)
then_split false true c e = (refl, λ h. absurd (true≢false h))
then_split false false c e = (refl, λ h. e)

pub then_make : (a b c : Bool) → a ≡ false → (b ≡ false → c ≡ false) → first_then a b c ≡ false
then_make true b c e f = absurd (true≢false e)
then_make false true c e f = refl
then_make false false c e f = f refl

then_true : (a b c : Bool) → first_then a b c ≡ true → (a ≡ true) ⊎ ((b ≡ false) × (c ≡ true))
then_true true b c e = inl refl
then_true false true c e = absurd (false≢true e)
then_true false false c e = inr (refl, e)

module _ (𝓟 𝓠 : Order) (𝓛 : Ordered 𝓟) (𝓜 : Ordered 𝓠) where
  open 𝓟 use {Thing, Valid, better}

  -- (p, q) is better than (r, s) by 𝓟, then 𝓠
  abbrev lex : Thing → 𝓠.Thing → Thing → 𝓠.Thing → Bool
  lex p q r s = first_then (better p r) (better r p) (𝓠.better q s)

  lex_self : (p : Thing) (q : 𝓠.Thing) → Valid p → 𝓠.Valid q → lex p q p q ≡ false
  lex_self p q vp vq = then_make (better p p) (better p p) (𝓠.better q q) (𝓛.self p vp) (λ h. 𝓜.self q vq)

  lex_chain : (p : Thing) (q : 𝓠.Thing) (r : Thing) (s : 𝓠.Thing) (x : Thing) (y : 𝓠.Thing) → Valid p → 𝓠.Valid q → Valid r → 𝓠.Valid s → Valid x → 𝓠.Valid y
      → lex r s p q ≡ false → lex x y r s ≡ false → lex x y p q ≡ false
  lex_chain p q r s x y vp vq vr vs vx vy e f =
      let (a, b) = then_split (better r p) (better p r) (𝓠.better s q) e in
      let (c, d) = then_split (better x r) (better r x) (𝓠.better y s) f in
      then_make (better x p) (better p x) (𝓠.better y q) (𝓛.chain p r x vp vr vx a c)
      (λ h. 𝓜.chain q s y vq vs vy (b (𝓛.chain r x p vr vx vp c h)) (d (𝓛.chain x p r vx vp vr h a)))

  lex_asym : (p : Thing) (q : 𝓠.Thing) (r : Thing) (s : 𝓠.Thing) → Valid p → 𝓠.Valid q → Valid r → 𝓠.Valid s → lex r s p q ≡ true → lex p q r s ≡ false
  lex_asym p q r s vp vq vr vs e = go (then_true (better r p) (better p r) (𝓠.better s q) e)
    where
      go : (better r p ≡ true) ⊎ ((better p r ≡ false) × (𝓠.better s q ≡ true)) → lex p q r s ≡ false
      go (inl f) = then_make (better p r) (better r p) (𝓠.better q s) (𝓛.asym p r vp vr f) (λ h. absurd (true≢false (sym f ∙ h)))
      go (inr (a, f)) = then_make (better p r) (better r p) (𝓠.better q s) a (λ h. 𝓜.asym q s vq vs f)

  lex_antisym : (p : Thing) (q : 𝓠.Thing) (r : Thing) (s : 𝓠.Thing) → Valid p → 𝓠.Valid q → Valid r → 𝓠.Valid s → lex r s p q ≡ false → lex p q r s ≡ false → (p ≡ r) × (q ≡ s)
  lex_antisym p q r s vp vq vr vs e f =
      let (a, b) = then_split (better r p) (better p r) (𝓠.better s q) e in
      let (c, d) = then_split (better p r) (better r p) (𝓠.better q s) f in
      (𝓛.antisym p r vp vr a c, 𝓜.antisym q s vq vs (b c) (d a))

-- ---- comparisons

-- the allowed numbers, as an order
abbrev pub numbers : (ℕ → Type 0) → (ℕ → ℕ → Bool) → Order
numbers allowed better_t = record { Thing = ℕ; Valid = allowed; better = better_t }

pub smaller_ordered : (allowed : ℕ → Type 0) → Ordered (numbers allowed ltb)
smaller_ordered allowed = record {
  self = λ t o. le-ltb t t (omega arith);
  chain = λ t u v ot ou ov e f. le-ltb v t (omega (arith, ltb-false u t e, ltb-false v u f));
  asym = λ t u ot ou e. le-ltb t u (omega (arith, ltb-true u t e));
  antisym = λ t u ot ou e f. omega (arith, ltb-false u t e, ltb-false t u f);
}

-- c is a total order on the language's weights with their t
pub record Orderly (allowed : ℕ → Type 0) (cs : List Component) (c : Comparing) : Type 0 where
  pub self : (x : Weight) (t : ℕ) → Valid cs x → allowed t → c x t x t ≡ false
  pub chain : (x : Weight) (t : ℕ) (y : Weight) (u : ℕ) (z : Weight) (v : ℕ) → Valid cs x → allowed t → Valid cs y → allowed u → Valid cs z → allowed v → c y u x t ≡ false → c z v y u ≡ false → c z v x t ≡ false
  pub asym : (x : Weight) (t : ℕ) (y : Weight) (u : ℕ) → Valid cs x → allowed t → Valid cs y → allowed u → c y u x t ≡ true → c x t y u ≡ false
  pub antisym : (x : Weight) (t : ℕ) (y : Weight) (u : ℕ) → Valid cs x → allowed t → Valid cs y → allowed u → c y u x t ≡ false → c x t y u ≡ false → (x ≡ y) × (t ≡ u)

module _ (allowed : ℕ → Type 0) (cs : List Component) where
  pub weight_orderly : ((t u : ℕ) → allowed t → allowed u → t ≡ u) → Orderly allowed cs (by_weight cs)
  weight_orderly one = record {
    self = λ x t vx vt. (ordered cs).self x vx;
    chain = λ x t y u z v vx vt vy vu vz vv. (ordered cs).chain x y z vx vy vz;
    asym = λ x t y u vx vt vy vu. (ordered cs).asym x y vx vy;
    antisym = λ x t y u vx vt vy vu e f. ((ordered cs).antisym x y vx vy e f, one t u vt vu);
  }

  module _ (better_t : ℕ → ℕ → Bool) (𝓣 : Ordered (numbers allowed better_t)) where
    pub weight_then_t_orderly : Orderly allowed cs (by_weight_then_t better_t cs)
    weight_then_t_orderly = record {
      self = lex_self (order (language cs)) (numbers allowed better_t) (ordered cs) 𝓣;
      chain = lex_chain (order (language cs)) (numbers allowed better_t) (ordered cs) 𝓣;
      asym = lex_asym (order (language cs)) (numbers allowed better_t) (ordered cs) 𝓣;
      antisym = lex_antisym (order (language cs)) (numbers allowed better_t) (ordered cs) 𝓣;
    }

    -- for every order on t
    pub t_then_weight_orderly : Orderly allowed cs (by_t_then_weight better_t cs)
    t_then_weight_orderly = record {
      self = λ x t vx vt. lex_self (numbers allowed better_t) (order (language cs)) 𝓣 (ordered cs) t x vt vx;
      chain = λ x t y u z v vx vt vy vu vz vv. lex_chain (numbers allowed better_t) (order (language cs)) 𝓣 (ordered cs) t x u y v z vt vx vu vy vv vz;
      asym = λ x t y u vx vt vy vu. lex_asym (numbers allowed better_t) (order (language cs)) 𝓣 (ordered cs) t x u y vt vx vu vy;
      antisym = λ x t y u vx vt vy vu e f. let (p, q) = lex_antisym (numbers allowed better_t) (order (language cs)) 𝓣 (ordered cs) t x u y vt vx vu vy e f in (q, p);
    }

-- Each mode's comparison is a total order.
pub mode_orderly : (mode : Mode) (cs : List Component) → Orderly (ValidT mode) cs (comparing mode cs)
mode_orderly Plain cs = weight_orderly (ValidT Plain) cs (λ t u p q. omega arith)
mode_orderly Hot cs = weight_then_t_orderly (ValidT Hot) cs ltb (smaller_ordered (ValidT Hot))
mode_orderly Cold cs = t_then_weight_orderly (ValidT Cold) cs ltb (smaller_ordered (ValidT Cold))
