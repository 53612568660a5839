-- Each case of the header and of the language is exact, and the header's are what its check refuses.
use Prim.Native.Nat.{ℕ, zero, suc, ◌+◌, ◌≤◌}
use mathlib.Core.Path.{◌≡◌, refl, sym, ap, ◌∙◌}
use mathlib.Core.Logic.Iff
use mathlib.Core.Logic.{◌↔◌}
use mathlib.Core.Bool.{Bool, true, false, cond, ◌&&◌}
use mathlib.Core.List.{List, [], ◌∷◌}
use native.Mathlib.Omega.{arith}
use borrow.Author.Tests.{eqb-true, eqb-false}
use lib.Dec.{leb, eqb}
use lib.ListN.{length}
use Rattle.refusals.specs.declared.Refusal.TheVariants.{Bytes, Version, Size, BadComponent, BadCount}
use Rattle.refusals.specs.Checks.{unless, Check}
use Rattle.std.specs.Result.{result_and}
use Rattle.refusals.specs.Cases.{Case, check_of, refusal_numbers}
use Rattle.refusals.proofs.First.{or_passed, result_and_assoc}
use Rattle.refusals.proofs.Tests.{both_exactly, either_exactly, implies_exactly, leb_exactly, eqb_exactly}
use Rattle.refusals.proofs.Cases.{Exact, AllExact, unless_exact, no_more, ◌and◌, append_exact}
use Rattle.file_bytes.specs.Bytes.{two_at}
use Rattle.fields.specs.Nested.{dist_tag, width_tag, class_tag, product_tag}
use Rattle.fields.specs.Header.{field_check, fields_check}
use Rattle.fields.specs.Cases.{byte_at, cut_case, version_field, nodes_field, destinations_field, mode_agrees, mode_field, header_cases, tag_case, product_case, HasLimit, has_limit, limit_cut_case, width_case, tag_cases, after_component, nested_cases}
use Rattle.std.specs.Prelude.{Ok}

pub cut_exact : (s : List ℕ) (at size : ℕ) → Exact (cut_case s at size)
cut_exact s at size = unless_exact (Bytes 0) at (leb_exactly (at + size) (length s))

-- ---- the header

range_exactly : (lo hi v : ℕ) → ((leb lo v && leb v hi) ≡ true) ↔ ((lo ≤ v) × (v ≤ hi))
range_exactly lo hi v = both_exactly (leb_exactly lo v) (leb_exactly v hi)

version_exact : (s : List ℕ) → Exact (version_field s)
version_exact s = unless_exact (Version 0) 4 (Iff.trans (range_exactly 1 1 (byte_at s 4)) (λ (g, h). omega arith, λ e. (omega arith, omega arith)))

nodes_exact : (s : List ℕ) → Exact (nodes_field s)
nodes_exact s = unless_exact (Size 0) 5 (range_exactly 1 16 (byte_at s 5))

destinations_exact : (s : List ℕ) → Exact (destinations_field s)
destinations_exact s = unless_exact (Size 0) 6 (Iff.trans (range_exactly 0 32 (byte_at s 6)) (λ (g, h). h, λ h. (omega arith, h)))

pub positive : (v : ℕ) → (v ≡ 0 → ⊥) → 1 ≤ v
positive zero n = absurd (n refl)
positive (suc v) n = omega arith

mode_exactly : (m mode : ℕ) → (mode_agrees m mode ≡ true) ↔ ((mode ≤ 3) × ((mode ≡ 0) ↔ (m ≡ 0)))
mode_exactly m mode = go (eqb m 0) refl
  where
    go : (b : Bool) → eqb m 0 ≡ b → (cond b (leb 0 mode && leb mode 0) (leb 1 mode && leb mode 3) ≡ true) ↔ ((mode ≤ 3) × ((mode ≡ 0) ↔ (m ≡ 0)))
    go true q = let z = eqb-true m 0 q in Iff.trans (range_exactly 0 0 mode) (λ (g, h). (omega arith, (λ e. z, λ e. omega arith)), λ (h, f). (let e = f.1 z in (omega arith, omega arith)))
    go false q =
        let z = eqb-false m 0 q in
        Iff.trans (range_exactly 1 3 mode) (λ (g, h). (h, (λ e. absurd (omega arith), λ e. absurd (z e))), λ (h, f). (positive mode (λ e. z (f.0 e)), h))

mode_exact : (s : List ℕ) → Exact (mode_field s)
mode_exact s = unless_exact (Size 0) 7 (mode_exactly (byte_at s 6) (byte_at s 7))

pub header_exact : (s : List ℕ) → AllExact (header_cases s)
header_exact s =
    cut_exact s 4 1 and version_exact s and cut_exact s 5 1 and nodes_exact s and cut_exact s 6 1 and destinations_exact s
    and cut_exact s 7 1 and mode_exact s and no_more

-- what the header's check refuses is what its cases do
pub header_check : (s : List ℕ) → fields_check s ≡ check_of (header_cases s)
unfolding fields_check field_check
header_check s =
    ap (λ (c : Check). result_and (field_check s 4 (Version 0 4) 1 1) (result_and (field_check s 5 (Size 0 5) 1 16) (result_and (field_check s 6 (Size 0 6) 0 32) c))) (mode (eqb (byte_at s 6) 0))
    ∙ four (cut_case s 4 1).check (version_field s).check (cut_case s 5 1).check (nodes_field s).check (cut_case s 6 1).check (destinations_field s).check _
  where
    mode : (b : Bool)
        → cond b (field_check s 7 (Size 0 7) 0 0) (field_check s 7 (Size 0 7) 1 3)
        ≡ result_and (cut_case s 7 1).check (result_and (unless (cond b (leb 0 (byte_at s 7) && leb (byte_at s 7) 0) (leb 1 (byte_at s 7) && leb (byte_at s 7) 3)) (Size 0 7)) (Ok tt))
    mode true = ap (result_and (cut_case s 7 1).check) (sym (or_passed _))
    mode false = ap (result_and (cut_case s 7 1).check) (sym (or_passed _))

    four : (a b c d e f g : Check) → result_and (result_and a b) (result_and (result_and c d) (result_and (result_and e f) g)) ≡ result_and a (result_and b (result_and c (result_and d (result_and e (result_and f g)))))
    four a b c d e f g = simp result_and_assoc

-- ---- the language

module _ (s : List ℕ) (at : ℕ) where
  tag_exact : Exact (tag_case s at)
  tag_exact = unless_exact (BadComponent 0) at (range_exactly dist_tag product_tag (byte_at s at))

  product_exact : (left : ℕ) → Exact (product_case s at left)
  product_exact left = unless_exact (BadCount 0) at (implies_exactly (eqb_exactly (byte_at s at) product_tag) (leb_exactly 1 left))

  limit_exactly : (has_limit (byte_at s at) ≡ true) ↔ HasLimit (byte_at s at)
  limit_exactly = either_exactly (eqb_exactly (byte_at s at) width_tag) (eqb_exactly (byte_at s at) class_tag)

  limit_cut_exact : Exact (limit_cut_case s at)
  limit_cut_exact = unless_exact (Bytes 0) (at + 1) (implies_exactly limit_exactly (leb_exactly (at + 1 + 2) (length s)))

  width_exact : Exact (width_case s at)
  width_exact = unless_exact (BadComponent 0) (at + 1) (implies_exactly (eqb_exactly (byte_at s at) width_tag) (leb_exactly 1 (two_at s (at + 1))))

  tag_all_exact : (left : ℕ) → AllExact (tag_cases s at left)
  tag_all_exact left = cut_exact s at 1 and tag_exact and product_exact left and limit_cut_exact and width_exact and no_more

-- 01's order at a tag
pub tag_numbers : (s : List ℕ) (at left : ℕ) → refusal_numbers (tag_cases s at left) ≡ 1 ∷ 4 ∷ 5 ∷ 1 ∷ 4 ∷ []
tag_numbers s at left = refl

pub nested_exact : (s : List ℕ) (at left wanted : ℕ) → AllExact (nested_cases s at left wanted)
unfolding nested_cases
nested_exact s at zero zero = no_more
nested_exact s at zero (suc wanted) = append_exact (tag_all_exact s at 0) (nested_exact s (after_component s at) zero wanted)
nested_exact s at (suc left) zero = no_more
nested_exact s at (suc left) (suc wanted) =
    append_exact (tag_all_exact s at (suc left))
    (go (eqb (byte_at s at) product_tag) (nested_exact s (at + 1) left (suc (suc wanted))) (nested_exact s (after_component s at) (suc left) wanted))
  where
    go : (b : Bool) {xs ys : List Case} → AllExact xs → AllExact ys → AllExact (cond b xs ys)
    go true e f = e
    go false e f = f
