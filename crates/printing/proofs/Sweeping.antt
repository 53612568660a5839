-- The list of sweeps: one number more, one sweep more.
use Prim.Native.Nat.{ℕ, suc, ◌+◌, ◌-◌, ◌*◌, ◌≤◌, ◌<◌}
use mathlib.Core.Path.{◌≡◌, refl, sym, ap, ◌∙◌}
use mathlib.Core.List.{List, [], ◌∷◌}
use native.Mathlib.Nat.{zero-mul, suc-mul, mul-one, mul-le-mul}
use native.Mathlib.Numerals.{add-one}
use native.Mathlib.Omega.{arith}
use lib.ListN.{set}
use Rattle.decimals.specs.Texts.{Put}
use Rattle.decimals.proofs.Putting.{put_byte, put_as}
use Rattle.texts.proofs.Growing.{Grown, grown_none, grown_more}
use Rattle.printing.specs.Work.{sweep_list}

-- a number by itself
abbrev pub alone : ℕ → List ℕ
alone i = i ∷ []

-- the same text with its end named otherwise
ending : {k at e e' : ℕ} {s x s' : List ℕ} → Put k s at x s' e → e ≡ e' → Put k s at x s' e'
ending p q = record { holds = p.holds; ends = sym q ∙ p.ends; near = omega (arith, p.near); long = p.long }

pub sweep_none : (s : List ℕ) (at : ℕ) → Grown 1 alone s at 0 s (at + 0)
sweep_none s at = ending (grown_none 1 alone s at) (omega arith)

pub sweep_more : (s₀ : List ℕ) (at i : ℕ) (s : List ℕ) → Grown 1 alone s₀ at i s (at + i) → Grown 1 alone s₀ at (i + 1) (set s (at + i) i) (at + (i + 1))
sweep_more s₀ at i s p = ending (grown_more 1 alone s₀ at i p (put_byte s (at + i) i)) (omega arith)

-- the same sweep in each round
abbrev pub round : ℕ → ℕ → List ℕ
round n t = sweep_list n

pub sweeps_none : (n : ℕ) (s : List ℕ) → Grown n (round n) s 0 0 s (0 * n)
sweeps_none n s = ending (grown_none n (round n) s 0) (omega (arith, zero-mul n))

pub sweeps_more : (n t : ℕ) (s₀ : List ℕ) {s s' : List ℕ} → Grown n (round n) s₀ 0 t s (t * n) → Put (n * 1) s (t * n) (sweep_list n) s' (t * n + n)
    → Grown n (round n) s₀ 0 (t + 1) s' ((t + 1) * n)
sweeps_more n t s₀ p q =
    ending (grown_more n (round n) s₀ 0 t p (put_as q refl (omega (arith, mul-one n)))) (omega (arith, suc-mul t n, ap (λ (z : ℕ). z * n) (add-one t)))

-- a sweep lies within the list
pub sweep_room : (n t : ℕ) → n ≤ 16 → t < n - 1 → t * n + n ≤ 240
sweep_room n t h g = let few : suc t ≤ 15 = omega arith in omega (arith, suc-mul t n, mul-le-mul few h)
