-- One mode inside another: a map of entries that keeps better, apply and empty keeps the forwarding sum.
use Prim.Native.Nat.{ℕ, zero, suc, ◌<◌}
use mathlib.Core.Path.{◌≡◌, sym, ◌∙◌, ap₂}
use mathlib.Core.Bool.{Bool, true, false, cond}
use native.Mathlib.Omega.{arith}
use Rattle.algebra.specs.Algebra.{Algebra}
use Rattle.algebra.specs.Order.{pick, best_of}
use Rattle.algebra.specs.Path.{Matrix}
use Rattle.algebra.specs.Modes.{Mode, Table, carried, forwarded}
use Rattle.algebra.proofs.Embedding.{GoesTo}

-- On entries of a kind L, to which weights of a kind K are applied, g keeps what a mode is made of; the weights are mapped by h.
pub record Carries (𝓐 𝓑 : Algebra) (K : 𝓐.Weight → Type 0) (h : 𝓐.Weight → 𝓑.Weight) (𝓜 : Mode 𝓐) (𝓝 : Mode 𝓑) (L : 𝓜.entries.Thing → Type 0) (g : 𝓜.entries.Thing → 𝓝.entries.Thing) : Type 0 where
  pub empty_in : L 𝓜.empty
  pub apply_in : (w : 𝓐.Weight) (e : 𝓜.entries.Thing) → K w → L e → L (𝓜.apply w e)
  pub of_empty : g 𝓜.empty ≡ 𝓝.empty
  pub of_apply : (w : 𝓐.Weight) (e : 𝓜.entries.Thing) → K w → L e → g (𝓜.apply w e) ≡ 𝓝.apply (h w) (g e)
  pub of_better : (e f : 𝓜.entries.Thing) → L e → L f → 𝓝.entries.better (g e) (g f) ≡ 𝓜.entries.better e f

-- e is of the kind, and f is what it is mapped to
pub record Leads {E F : Type 0} (L : E → Type 0) (g : E → F) (e : E) (f : F) : Type 0 where
  pub kind : L e
  pub to : g e ≡ f

module _ (𝓐 𝓑 : Algebra) (K : 𝓐.Weight → Type 0) (h : 𝓐.Weight → 𝓑.Weight) (𝓜 : Mode 𝓐) (𝓝 : Mode 𝓑) (L : 𝓜.entries.Thing → Type 0) (g : 𝓜.entries.Thing → 𝓝.entries.Thing)
    (C : Carries 𝓐 𝓑 K h 𝓜 𝓝 L g) where
  infix 50 ◌⇒◌
  abbrev ◌⇒◌ : 𝓜.entries.Thing → 𝓝.entries.Thing → Type 0
  ◌⇒◌ = Leads L g

  cond_leads : (b : Bool) {x y : 𝓜.entries.Thing} {v w : 𝓝.entries.Thing} → x ⇒ v → y ⇒ w → cond b x y ⇒ cond b v w
  cond_leads true p q = p
  cond_leads false p q = q

  better_leads : {x y : 𝓜.entries.Thing} {v w : 𝓝.entries.Thing} → x ⇒ v → y ⇒ w → 𝓝.entries.better v w ≡ 𝓜.entries.better x y
  better_leads {x} {y} p q = sym (ap₂ 𝓝.entries.better p.to q.to) ∙ C.of_better x y p.kind q.kind

  pub pick_leads : {x y : 𝓜.entries.Thing} {v w : 𝓝.entries.Thing} → x ⇒ v → y ⇒ w → pick 𝓜.entries x y ⇒ pick 𝓝.entries v w
  unfolding pick
  pick_leads {x} {y} {v} {w} p q = rw (better_leads q p) (cond_leads (𝓜.entries.better y x) q p)

  pub best_of_leads : (n : ℕ) (f : ℕ → 𝓜.entries.Thing) (e : ℕ → 𝓝.entries.Thing) (z : 𝓜.entries.Thing) (y : 𝓝.entries.Thing) → ((k : ℕ) → k < n → f k ⇒ e k) → z ⇒ y
      → best_of 𝓜.entries n f z ⇒ best_of 𝓝.entries n e y
  unfolding best_of
  best_of_leads zero f e z y each last = last
  best_of_leads (suc n) f e z y each last = pick_leads (best_of_leads n f e z y (λ k l. each k (omega arith)) last) (each n (omega arith))

  module _ (n m : ℕ) (R : Matrix 𝓐) (S : Matrix 𝓑) (routes : GoesTo 𝓐 𝓑 K h n R S) (M : Table 𝓐 𝓜) (T : Table 𝓑 𝓝) (table : (i d : ℕ) → i < n → d < m → M i d ⇒ T i d) where
    pub carried_leads : (i d k : ℕ) → i < n → d < m → k < n → carried 𝓐 𝓜 R M i d k ⇒ carried 𝓑 𝓝 S T i d k
    carried_leads i d k hi hd hk =
        let r = routes i k hi hk in
        let t = table k d hk hd in
        record { kind = C.apply_in (R i k) (M k d) r.kind t.kind; to = C.of_apply (R i k) (M k d) r.kind t.kind ∙ ap₂ 𝓝.apply r.to t.to }

    pub forwarded_leads : (i d : ℕ) → i < n → d < m → forwarded 𝓐 𝓜 n R M i d ⇒ forwarded 𝓑 𝓝 n S T i d
    unfolding forwarded
    forwarded_leads i d hi hd = best_of_leads n (carried 𝓐 𝓜 R M i d) (carried 𝓑 𝓝 S T i d) 𝓜.empty 𝓝.empty (λ k hk. carried_leads i d k hi hd hk) record { kind = C.empty_in; to = C.of_empty }
