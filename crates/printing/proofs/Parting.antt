-- The parts of the text, way by way.
use Prim.Native.Nat.{ℕ, ◌+◌, ◌*◌, ◌≤◌}
use mathlib.Core.Path.{◌≡◌, refl, sym, ap, ◌∙◌}
use mathlib.Core.List.{List, [], ◌∷◌, ◌++◌}
use native.Mathlib.Nat.{mul-le-mul, mul-le-mul_right}
use native.Mathlib.Omega.{arith}
use borrow.Author.Tests.{eq-eqb, ne_eqb}
use lib.ListN.{length, length-take}
use Rattle.refusals.specs.declared.Told.{Told}
use Rattle.weights.specs.declared.Language.{Language}
use Rattle.weights.specs.Sizes.{places}
use Rattle.weights.specs.Languages.{components_of}
use Rattle.laws.specs.Report.{Report, report}
use Rattle.matrices.specs.Buffers.{matrix_in}
use Rattle.tables.specs.Tables.{table_in}
use Rattle.decimals.specs.Texts.{Put}
use Rattle.decimals.proofs.Putting.{put_then, put_as}
use Rattle.texts.specs.Lines.{laws_line, route_lines, entry_lines, refused_line}
use Rattle.texts.proofs.Composing.{put_nothing}
use Rattle.printing.specs.Printed.{laws_part, routes_part, forward_part}

pub laws_text : (r : Report) (l : Language) → r ≡ report l → laws_line r.law_d.held r.law_u.held r.law_c.held ≡ laws_part l
laws_text r l e = ap (λ (x : Report). laws_line x.law_d.held x.law_u.held x.law_c.held) e

-- a language has as many components as it counts
pub components_counted : (l : Language) → l.count ≤ places → length (components_of l) ≡ l.count
components_counted l h = length-take l.count (l.first ∷ l.second ∷ l.third ∷ l.fourth ∷ []) ∙ omega arith

-- ---- the F lines

module _ (l : Language) (n m mode : ℕ) (t : Told) (f s₀ : List ℕ) (at : ℕ) where
  pub forward_none : m ≡ 0 → Put (41 + n * (m * 79)) s₀ at (forward_part l n m mode t f) s₀ at
  forward_none e = rw (eq-eqb m 0 e) (put_nothing (41 + n * (m * 79)) s₀ at)

  pub forward_lines : {s : List ℕ} {end : ℕ} → l.count ≤ places → (m ≡ 0 → ⊥) → t.number ≡ 0
      → Put (n * (m * 79)) s₀ at (entry_lines mode n m (table_in l.count m f)) s end
      → Put (41 + n * (m * 79)) s₀ at (forward_part l n m mode t f) s end
  forward_lines h e q p =
      rw (ne_eqb m 0 e, eq-eqb t.number 0 q)
      (put_as p (ap (λ (k : ℕ). entry_lines mode n m (table_in k m f)) (sym (components_counted l h))) (omega arith))

  pub forward_refused : {s : List ℕ} {end : ℕ} → (m ≡ 0 → ⊥) → (t.number ≡ 0 → ⊥) → Put 41 s₀ at (refused_line t) s end
      → Put (41 + n * (m * 79)) s₀ at (forward_part l n m mode t f) s end
  forward_refused e q p = rw (ne_eqb m 0 e, ne_eqb t.number 0 q) (put_as p refl (omega arith))

-- ---- the R lines, and what follows them

module _ (l : Language) (n k : ℕ) (t : Told) (r rest s₀ : List ℕ) (at : ℕ) where
  pub routes_lines : {s₁ s₂ : List ℕ} {mid end : ℕ} → l.count ≤ places → t.number ≡ 0
      → Put (n * (n * 68)) s₀ at (route_lines n (matrix_in l.count n r)) s₁ mid
      → Put k s₁ mid rest s₂ end
      → Put (41 + n * (n * 68) + k) s₀ at (routes_part l n t r rest) s₂ end
  routes_lines h q p x =
      rw (eq-eqb t.number 0 q)
      (put_as (put_then p x) (ap (λ (j : ℕ). route_lines n (matrix_in j n r) ++ rest) (sym (components_counted l h))) (omega arith))

  pub routes_refused : {s : List ℕ} {end : ℕ} → (t.number ≡ 0 → ⊥) → Put 41 s₀ at (refused_line t) s end
      → Put (41 + n * (n * 68) + k) s₀ at (routes_part l n t r rest) s end
  routes_refused q p = rw (ne_eqb t.number 0 q) (put_as p refl (omega arith))

-- ---- the whole text fits

pub routes_small : (n : ℕ) → n ≤ 16 → n * (n * 68) ≤ 17408
routes_small n h = mul-le-mul h (mul-le-mul_right 68 h)

pub entries_small : (n m : ℕ) → n ≤ 16 → m ≤ 32 → n * (m * 79) ≤ 40448
entries_small n m h g = mul-le-mul h (mul-le-mul_right 79 g)
