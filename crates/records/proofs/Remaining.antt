-- Laws of the loops over values and over records, stated by the work that is left.
use Prim.Native.Nat.{ℕ, zero, suc, ◌+◌, ◌-◌, ◌*◌, ◌≤◌, ◌<◌}
use mathlib.Core.Path.{◌≡◌, refl, ap, ◌∙◌}
use mathlib.Core.Bool.{cond}
use mathlib.Core.List.{List, [], ◌∷◌}
use native.Mathlib.Omega.{arith}
use native.Mathlib.Numerals.{add-one}
use lib.Dec.{eqb}
use lib.ListN.{take, drop, length-take, drop_of_length-le}
use Rattle.refusals.specs.declared.Refusal.TheVariants.{Value}
use Rattle.refusals.specs.Checks.{unless, Check}
use Rattle.std.specs.Result.{result_and}
use Rattle.weights.specs.declared.Component.{Component}
use Rattle.weights.specs.declared.Language.{Language}
use Rattle.weights.specs.Sizes.{places, arc_sum}
use Rattle.weights.specs.Languages.{components_of}
use Rattle.weights.specs.Words.{in_range}
use Rattle.file_bytes.specs.Bytes.{two_at}
use Rattle.records.specs.Records.{values_check, length_of, record_check, records_check}
use Rattle.records.specs.Parts.{component_at}
use Rattle.fields.specs.declared.Head.{Head}
use Rattle.records.specs.declared.Listing.{Listing}
use Rattle.std.specs.Prelude.{Ok}

-- ---- values

at_four : (n k : ℕ) (a b c d : Component) → k < n → n ≤ places
    → drop k (take n (a ∷ b ∷ c ∷ d ∷ [])) ≡ cond (eqb k 0) a (cond (eqb k 1) b (cond (eqb k 2) c d)) ∷ drop (suc k) (take n (a ∷ b ∷ c ∷ d ∷ []))
at_four zero k a b c d h g = absurd (omega arith)
at_four (suc n) zero a b c d h g = refl
at_four (suc zero) (suc k) a b c d h g = absurd (omega arith)
at_four (suc (suc n)) (suc zero) a b c d h g = refl
at_four (suc (suc zero)) (suc (suc k)) a b c d h g = absurd (omega arith)
at_four (suc (suc (suc n))) (suc (suc zero)) a b c d h g = refl
at_four (suc (suc (suc zero))) (suc (suc (suc k))) a b c d h g = absurd (omega arith)
at_four (suc (suc (suc (suc n)))) (suc (suc (suc zero))) a b c d h g = refl
at_four (suc (suc (suc (suc zero)))) (suc (suc (suc (suc k)))) a b c d h g = absurd (omega arith)
at_four (suc (suc (suc (suc (suc n))))) (suc (suc (suc (suc k)))) a b c d h g = absurd (omega arith)

past_four : (n k : ℕ) (xs : List Component) → n ≤ k → drop k (take n xs) ≡ []
past_four n k xs h = drop_of_length-le (take n xs) {i = k} (omega (arith, length-take n xs))

-- the values that are left from component k on
abbrev pub left_check : List ℕ → Language → ℕ → ℕ → Check
left_check s l at k = values_check s (drop k (components_of l)) (at + k * 2)

module _ (s : List ℕ) (l : Language) (at k : ℕ) where
  pub values_more : k < l.count → l.count ≤ places
      → left_check s l at k ≡ result_and (unless (in_range arc_sum (component_at l k) (two_at s (at + k * 2))) (Value 0 (at + k * 2))) (left_check s l at (k + 1))
  unfolding values_check
  values_more h g =
      let q : at + k * 2 + 2 ≡ at + (k + 1) * 2 = omega arith in
      ap (λ (cs : List Component). values_check s cs (at + k * 2)) (at_four l.count k l.first l.second l.third l.fourth h g)
      ∙ rw (q, add-one k)

  pub values_none : l.count ≤ k → left_check s l at k ≡ Ok tt
  unfolding values_check
  values_none h = ap (λ (cs : List Component). values_check s cs (at + k * 2)) (past_four l.count k (l.first ∷ l.second ∷ l.third ∷ l.fourth ∷ []) h)

pub values_all : (s : List ℕ) (l : Language) (at : ℕ) → values_check s (components_of l) at ≡ left_check s l at 0
values_all s l at = let q : at ≡ at + 0 * 2 = omega arith in ap (values_check s (components_of l)) q

-- ---- records

module _ (s : List ℕ) (h : Head) (list : Listing) (at low e count : ℕ) where
  pub records_more : e < count
      → records_check s h list at low (count - e)
      ≡ result_and (record_check s h list at low) (records_check s h list (at + length_of h list) (two_at s at + 1) (count - (e + 1)))
  unfolding records_check
  records_more l = let q : count - e ≡ suc (count - (e + 1)) = omega arith in rw q

  pub records_none : count ≤ e → records_check s h list at low (count - e) ≡ Ok tt
  unfolding records_check
  records_none l = let q : count - e ≡ 0 = omega arith in rw q
