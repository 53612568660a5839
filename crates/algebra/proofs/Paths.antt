-- Paths that visit no node twice: their parts are such paths, and they have less than n arcs.
use Prim.Native.Nat.{ℕ, zero, suc, ◌≤◌, ◌<◌}
use mathlib.Core.Path.{◌≡◌, refl, subst}
use mathlib.Core.Logic.{inl, inr}
use mathlib.Core.List.{List, [], ◌∷◌}
use lib.ListN.{length}
use native.Mathlib.Omega.{arith}
use native.Mathlib.Decide.{ℕ_discrete}
use Rattle.algebra.specs.Path.{Mem, Below, Distinct, Simple, path_weight}
use Rattle.algebra.specs.Network.{Network}

-- the rest of a simple path is simple
pub simple_rest : {n i j k : ℕ} {p : List ℕ} → Simple n i j (k ∷ p) → Simple n k j p
simple_rest s = record { ends = s.ends; below = s.below.1; distinct = s.distinct.1 }

pub simple_stay : {n i : ℕ} → i < n → Simple n i i []
simple_stay h = record { ends = refl; below = (h, tt); distinct = (λ m. m, tt) }

pub simple_more : {n i j k : ℕ} {p : List ℕ} → i < n → ¬ Mem i (k ∷ p) → Simple n k j p → Simple n i j (k ∷ p)
simple_more h f s = record { ends = s.ends; below = (h, s.below); distinct = (f, s.distinct) }

module _ (N : Network) where
  open N use {𝓐, 𝓛, n, A, arcs_valid}

  pub weight_valid : (i : ℕ) (p : List ℕ) → Below n (i ∷ p) → 𝓐.Valid (path_weight 𝓐 A i p)
  weight_valid i [] h = 𝓛.unit_valid
  weight_valid i (k ∷ p) h = 𝓛.join_valid _ _ (arcs_valid i k h.0 h.1.0) (weight_valid k p h.1)

-- Pigeons: n taken out of a list of distinct numbers below n + 1
record Without (n : ℕ) (l r : List ℕ) : Type 0 where
  below : Below n r
  distinct : Distinct r
  shorter : length l ≤ suc (length r)
  within : (a : ℕ) → Mem a r → Mem a l

below_last : (n : ℕ) (l : List ℕ) → Below (suc n) l → ¬ Mem n l → Below n l
below_last n [] b f = tt
below_last n (a ∷ l) b f =
    let h : a < suc n = b.0 in
    let g : n ≡ a → ⊥ = λ e. f (inl e) in
    (omega arith, below_last n l b.1 (λ m. f (inr m)))

without : (n : ℕ) (l : List ℕ) → Below (suc n) l → Distinct l → (r : List ℕ) × Without n l r
without n [] b d = ([], record { below = tt; distinct = tt; shorter = omega arith; within = λ a m. m })
without n (a ∷ l) b d = go (ℕ_discrete a n) (without n l b.1 d.1)
  where
    go : Dec (a ≡ n) → (r : List ℕ) × Without n l r → (r : List ℕ) × Without n (a ∷ l) r
    go (yes e) w = (l, record { below = below_last n l b.1 (subst (λ (m : ℕ). ¬ Mem m l) e d.0); distinct = d.1; shorter = omega arith; within = λ x m. inr m })
    go (no f) (r, w) = (
      a ∷ r,
      record {
        below = (omega (arith, b.0, f), w.below);
        distinct = (λ m. d.0 (w.within a m), w.distinct);
        shorter = omega (arith, w.shorter);
        within = kept;
      },
    )
      where
        kept : (x : ℕ) → Mem x (a ∷ r) → Mem x (a ∷ l)
        kept x (inl e) = inl e
        kept x (inr m) = inr (w.within x m)

pub pigeons : (n : ℕ) (l : List ℕ) → Below n l → Distinct l → length l ≤ n
pigeons zero [] b d = omega arith
pigeons zero (a ∷ l) b d = omega (arith, b.0)
pigeons (suc n) l b d = let w = without n l b d in omega (arith, w.1.shorter, pigeons n w.0 w.1.below w.1.distinct)

-- a simple path has at most n - 1 arcs
pub simple_short : {n i j : ℕ} {p : List ℕ} → Simple n i j p → length p < n
simple_short {n} {i} {j} {p} s = pigeons n (i ∷ p) s.below s.distinct
