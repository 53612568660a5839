-- Tests in words: each holds exactly where what it tests does.
use Prim.Native.Nat.{ℕ, ◌≤◌, ◌<◌}
use mathlib.Core.Path.{◌≡◌, refl, sym, ◌∙◌}
use mathlib.Core.Bool.{Bool, true, false, not, ◌&&◌, ◌||◌, false≢true}
use mathlib.Core.Logic.{◌⊎◌, inl, inr, ◌↔◌}
use lib.Dec.{leb, ltb, eqb}
use borrow.Author.Tests.{leb-true, le-leb, ltb-true, lt-ltb, eqb-true, eq-eqb}

-- a test fails exactly where what it decides does
pub by_test : {b : Bool} {P : Type 0} → (b ≡ true) ↔ P → (b ≡ false) ↔ (P → ⊥)
by_test {b} {P} x = (λ e p. false≢true (sym e ∙ x.1 p), λ f. go b refl f)
  where
    go : (c : Bool) → b ≡ c → (P → ⊥) → b ≡ false
    go true e f = absurd (f (x.0 e))
    go false e f = e

-- two tests
pub both_exactly : {a b : Bool} {P Q : Type 0} → (a ≡ true) ↔ P → (b ≡ true) ↔ Q → ((a && b) ≡ true) ↔ (P × Q)
both_exactly {a} {b} x y = (λ e. go a b e x.0 y.0, λ (p, q). rw (x.1 p, y.1 q))
  where
    go : {P Q : Type 0} (a b : Bool) → (a && b) ≡ true → (a ≡ true → P) → (b ≡ true → Q) → P × Q
    go true true e f g = (f refl, g refl)
    go true false e f g = absurd (false≢true e)
    go false b e f g = absurd (false≢true e)

-- one of two tests
pub either_exactly : {a b : Bool} {P Q : Type 0} → (a ≡ true) ↔ P → (b ≡ true) ↔ Q → ((a || b) ≡ true) ↔ (P ⊎ Q)
either_exactly {a} {b} {P} {Q} x y = (λ e. go a b e x.0 y.0, back)
  where
    go : {P Q : Type 0} (a b : Bool) → (a || b) ≡ true → (a ≡ true → P) → (b ≡ true → Q) → P ⊎ Q
    go true b e f g = inl (f refl)
    go false true e f g = inr (g refl)
    go false false e f g = absurd (false≢true e)

    or_true : (a : Bool) → b ≡ true → (a || b) ≡ true
    or_true true e = refl
    or_true false e = e

    back : P ⊎ Q → (a || b) ≡ true
    back (inl p) = rw (x.1 p)
    back (inr q) = or_true a (y.1 q)

-- one test only where another holds
pub implies_exactly : {a b : Bool} {P Q : Type 0} → (a ≡ true) ↔ P → (b ≡ true) ↔ Q → ((not a || b) ≡ true) ↔ (P → Q)
implies_exactly {a} {b} {P} {Q} x y = (λ e p. go a (x.1 p) e, back a refl)
  where
    go : (c : Bool) → c ≡ true → (not c || b) ≡ true → Q
    go true q e = y.0 e
    go false q e = absurd (false≢true q)

    back : (c : Bool) → a ≡ c → (P → Q) → (not c || b) ≡ true
    back true q f = y.1 (f (x.0 q))
    back false q f = refl

pub leb_exactly : (i j : ℕ) → (leb i j ≡ true) ↔ (i ≤ j)
leb_exactly i j = (leb-true i j, le-leb i j)

pub ltb_exactly : (i j : ℕ) → (ltb i j ≡ true) ↔ (i < j)
ltb_exactly i j = (ltb-true i j, lt-ltb i j)

pub eqb_exactly : (i j : ℕ) → (eqb i j ≡ true) ↔ (i ≡ j)
eqb_exactly i j = (eqb-true i j, eq-eqb i j)
