-- How large a forwarded entry is: with sums of at most 983,025 in R and of at most 65,535 in M, at most 1,048,560.
use Prim.Native.Nat.{ℕ, zero, suc, ◌+◌, ◌≤◌, ◌<◌}
use mathlib.Core.Path.{◌≡◌, refl}
use mathlib.Core.Bool.{Bool, true, false, cond}
use mathlib.Core.List.{List}
use native.Mathlib.Omega.{arith}
use Rattle.algebra.specs.Order.{Order, pick, best_of}
use Rattle.algebra.specs.Path.{Matrix}
use Rattle.algebra.specs.Modes.{carried, forwarded}
use Rattle.algebra.proofs.Bound.{Size}
use Rattle.weights.specs.declared.Component.{Component}
use Rattle.weights.specs.Sizes.{arc_sum, matrix_sum, table_sum}
use Rattle.weights.specs.Weights.{Weight, none, route, join, language}
use Rattle.weights.specs.Sums.{sum_at}
use Rattle.weights.proofs.Sums.{sum_size}
use Rattle.modes.specs.declared.Mode.{Mode}
use Rattle.modes.specs.Entries.{Entry, empty, mapped, with_t, applied, mode_of}
use Rattle.modes.specs.Gains.{weight_in}

-- what holds of every candidate holds of the best
pub best_keeps : (𝓞 : Order) (P : 𝓞.Thing → Type 0) (n : ℕ) (f : ℕ → 𝓞.Thing) (z : 𝓞.Thing) → P z → ((k : ℕ) → k < n → P (f k)) → P (best_of 𝓞 n f z)
unfolding best_of pick
best_keeps 𝓞 P zero f z pz pf = pz
best_keeps 𝓞 P (suc n) f z pz pf = go (𝓞.better (f n) (best_of 𝓞 n f z)) (best_keeps 𝓞 P n f z pz (λ k h. pf k (omega arith)))
  where
    go : (b : Bool) → P (best_of 𝓞 n f z) → P (cond b (f n) (best_of 𝓞 n f z))
    go true p = pf n (omega arith)
    go false p = p

weight_with : (w : Weight) (t : ℕ) → weight_in (with_t w t) ≡ w
weight_with none t = refl
weight_with (route xs) t = refl

module _ (cs : List Component) (size : Weight → ℕ) (z : Size (language cs) size) (a b : ℕ) where
  -- a weight applied adds its size at most
  pub applied_size : (w : Weight) (e : Entry) → size w ≤ a → size (weight_in e) ≤ b → size (weight_in (applied cs w e)) ≤ a + b
  applied_size w empty h k = omega (arith, z.of_none)
  applied_size w (mapped ys t) h k = rw (weight_with (join cs w (route ys)) t) (omega (arith, z.of_join w (route ys)))

  pub forwarded_size : (mode : Mode) (n m : ℕ) (R : Matrix (language cs)) (M : ℕ → ℕ → Entry)
      → ((i k : ℕ) → i < n → k < n → size (R i k) ≤ a) → ((k d : ℕ) → k < n → d < m → size (weight_in (M k d)) ≤ b)
      → (i d : ℕ) → i < n → d < m → size (weight_in (forwarded (language cs) (mode_of mode cs) n R M i d)) ≤ a + b
  unfolding forwarded
  forwarded_size mode n m R M h_r h_m i d hi hd =
      best_keeps (mode_of mode cs).entries (λ (e : Entry). size (weight_in e) ≤ a + b) n (carried (language cs) (mode_of mode cs) R M i d) empty
      (omega (arith, z.of_none)) (λ k hk. applied_size (R i k) (M k d) (h_r i k hi hk) (h_m k d hk hd))

-- Every sum of a forwarded entry is at most 1,048,560.
pub forwarded_sum : (cs : List Component) (c : ℕ) (mode : Mode) (n m : ℕ) (R : Matrix (language cs)) (M : ℕ → ℕ → Entry)
    → ((i k : ℕ) → i < n → k < n → sum_at cs c (R i k) ≤ matrix_sum) → ((k d : ℕ) → k < n → d < m → sum_at cs c (weight_in (M k d)) ≤ arc_sum)
    → (i d : ℕ) → i < n → d < m → sum_at cs c (weight_in (forwarded (language cs) (mode_of mode cs) n R M i d)) ≤ table_sum
forwarded_sum cs c mode = forwarded_size cs (sum_at cs c) (sum_size cs c) matrix_sum arc_sum mode
