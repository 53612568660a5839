-- What `pick` and `best_of` give in an order: one of the candidates, and none is better.
use Prim.Native.Nat.{ℕ, zero, suc, ◌<◌}
use mathlib.Core.Path.{◌≡◌, refl, sym, ◌∙◌, ap₂, subst}
use mathlib.Core.Bool.{Bool, true, false, cond}
use mathlib.Core.Logic.{◌⊎◌, inl, inr}
use native.Mathlib.Omega.{arith}
use native.Mathlib.Decide.{dec_lt}
use Rattle.algebra.specs.Order.{Order, Ordered, pick, best_of}

-- k below suc n is below n, or is n
pub below_suc : (k n : ℕ) → k < suc n → (k < n) ⊎ (k ≡ n)
below_suc k n h = go (dec_lt k n)
  where
    go : Dec (k < n) → (k < n) ⊎ (k ≡ n)
    go (yes l) = inl l
    go (no l) = inr (omega arith)

module _ (𝓞 : Order) where
  open 𝓞 use {Thing, Valid, better}

  -- x and y are valid, and x is no worse than y.
  pub record NoWorse (x y : Thing) : Type 0 where
    pub left : Valid x
    pub right : Valid y
    pub test : better y x ≡ false

  -- the best of the same candidates is the same
  pub best_of_same : (n : ℕ) (f g : ℕ → Thing) (z : Thing) → ((k : ℕ) → k < n → f k ≡ g k) → best_of 𝓞 n f z ≡ best_of 𝓞 n g z
  unfolding best_of
  best_of_same zero f g z h = refl
  best_of_same (suc n) f g z h = ap₂ (pick 𝓞) (best_of_same n f g z (λ k l. h k (omega arith))) (h n (omega arith))

module _ (𝓞 : Order) (𝓛 : Ordered 𝓞) where
  open 𝓞 use {Thing, Valid, better}

  infix 50 ◌≼◌
  abbrev ◌≼◌ : Thing → Thing → Type 0
  ◌≼◌ = NoWorse 𝓞

  pub nw_refl : {x : Thing} → Valid x → x ≼ x
  nw_refl {x} o = record { left = o; right = o; test = 𝓛.self x o }

  pub nw_eq : {x y : Thing} → Valid x → x ≡ y → x ≼ y
  nw_eq {x} {y} o e = subst (λ (z : Thing). x ≼ z) e (nw_refl o)

  pub nw_trans : {x y z : Thing} → x ≼ y → y ≼ z → x ≼ z
  nw_trans {x} {y} {z} p q = record { left = p.left; right = q.right; test = 𝓛.chain x y z p.left p.right q.right p.test q.test }

  pub nw_antisym : {x y : Thing} → x ≼ y → y ≼ x → x ≡ y
  nw_antisym {x} {y} p q = 𝓛.antisym x y p.left p.right p.test q.test

  -- what is picked is one of the two, and no worse than either
  pub record Picked (x y z : Thing) : Type 0 where
    pub fst : z ≼ x
    pub snd : z ≼ y
    pub one : (z ≡ x) ⊎ (z ≡ y)

  pub pick_is : (x y : Thing) → Valid x → Valid y → Picked x y (pick 𝓞 x y)
  unfolding pick
  pick_is x y vx vy = go (better y x) refl
    where
      go : (b : Bool) → better y x ≡ b → Picked x y (cond b y x)
      go true e = record { fst = record { left = vy; right = vx; test = 𝓛.asym x y vx vy e }; snd = nw_refl vy; one = inr refl }
      go false e = record { fst = nw_refl vx; snd = record { left = vx; right = vy; test = e }; one = inl refl }

  -- the best of several is one of them, and no worse than any
  pub record Chosen (n : ℕ) (f : ℕ → Thing) (z b : Thing) : Type 0 where
    pub last : b ≼ z
    pub each : (k : ℕ) → k < n → b ≼ f k
    pub from : (b ≡ z) ⊎ ((k : ℕ) × (k < n) × (b ≡ f k))

  pub best_of_is : (n : ℕ) (f : ℕ → Thing) (z : Thing) → ((k : ℕ) → k < n → Valid (f k)) → Valid z → Chosen n f z (best_of 𝓞 n f z)
  unfolding best_of
  best_of_is zero f z vf vz = record { last = nw_refl vz; each = λ k h. absurd (omega arith); from = inl refl }
  best_of_is (suc n) f z vf vz = more (best_of_is n f z (λ k h. vf k (omega arith)) vz)
    where
      b : Thing
      b = best_of 𝓞 n f z

      more : Chosen n f z b → Chosen (suc n) f z (pick 𝓞 b (f n))
      more c = record { last = nw_trans o.fst c.last; each = λ k h. each_of k (below_suc k n h); from = from_of o.one c.from }
        where
          o : Picked b (f n) (pick 𝓞 b (f n))
          o = pick_is b (f n) c.last.left (vf n (omega arith))

          each_of : (k : ℕ) → (k < n) ⊎ (k ≡ n) → pick 𝓞 b (f n) ≼ f k
          each_of k (inl l) = nw_trans o.fst (c.each k l)
          each_of k (inr e) = subst (λ (m : ℕ). pick 𝓞 b (f n) ≼ f m) (sym e) o.snd

          from_of : {x : Thing} → (x ≡ b) ⊎ (x ≡ f n) → (b ≡ z) ⊎ ((k : ℕ) × (k < n) × (b ≡ f k)) → (x ≡ z) ⊎ ((k : ℕ) × (k < suc n) × (x ≡ f k))
          from_of (inr e) r = inr (n, omega arith, e)
          from_of (inl e) (inl e') = inl (e ∙ e')
          from_of (inl e) (inr r) = let h : r.0 < n = r.1 in inr (r.0, omega arith, e ∙ r.2)

  -- where each of several things gets no worse, so does the best of them
  pub best_of_mono : (n : ℕ) (f g : ℕ → Thing) (z : Thing) → ((k : ℕ) → k < n → f k ≼ g k) → Valid z → best_of 𝓞 n f z ≼ best_of 𝓞 n g z
  best_of_mono n f g z h vz = go theirs.from
    where
      theirs : Chosen n g z (best_of 𝓞 n g z)
      theirs = best_of_is n g z (λ k l. (h k l).right) vz

      mine : Chosen n f z (best_of 𝓞 n f z)
      mine = best_of_is n f z (λ k l. (h k l).left) vz

      go : (best_of 𝓞 n g z ≡ z) ⊎ ((k : ℕ) × (k < n) × (best_of 𝓞 n g z ≡ g k)) → best_of 𝓞 n f z ≼ best_of 𝓞 n g z
      go (inl e) = rw e mine.last
      go (inr r) = rw r.2 (nw_trans (mine.each r.0 r.1) (h r.0 r.1))
