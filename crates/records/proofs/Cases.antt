-- Each case of the two lists is exact, and the lists' are what the body's check refuses.
use Prim.Native.Nat.{ℕ, zero, suc, ◌+◌}
use mathlib.Core.Path.{◌≡◌, refl, sym, ap}
use mathlib.Core.Bool.{true}
use mathlib.Core.Logic.{◌↔◌}
use mathlib.Core.List.{List, [], ◌∷◌, ◌++◌}
use native.Mathlib.Omega.{arith}
use lib.ListN.{length, replicate}
use Rattle.refusals.specs.declared.Refusal.TheVariants.{Bytes, Value, NoSuch, NotAscending}
use Rattle.std.specs.Result.{result_and}
use Rattle.refusals.specs.Cases.{check_of, refusal_numbers}
use Rattle.refusals.proofs.First.{or_passed, result_and_assoc}
use Rattle.refusals.proofs.Tests.{both_exactly, leb_exactly, ltb_exactly}
use Rattle.refusals.proofs.Cases.{Exact, AllExact, unless_exact, no_more, ◌and◌, append_exact, check_in_turn}
use Rattle.weights.specs.declared.Component.{Component}
use Rattle.weights.specs.declared.Component.TheVariants.{Dist, Width, Class, Gain}
use Rattle.weights.specs.Sizes.{arc_sum}
use Rattle.weights.specs.Languages.{components_of}
use Rattle.weights.specs.Words.{in_range}
use Rattle.file_bytes.specs.Bytes.{two_at}
use Rattle.fields.specs.declared.Head.{Head}
use Rattle.fields.specs.Cases.{byte_at, cut_case}
use Rattle.fields.proofs.Cases.{cut_exact}
use Rattle.records.specs.declared.Listing.{Listing}
use Rattle.records.specs.declared.Listing.TheVariants.{Arcs, Attachments}
use Rattle.records.specs.Records.{length_of, ends_at, ends_check, values_check, record_check, records_check, record_list_check, list_end, body_check}
use Rattle.records.specs.Cases.{end_case, seconds, ascend_case, IsValue, value_case, values_cases, record_cases, records_cases, record_list_cases, left_over_case, body_cases}

-- ---- each case is exact

end_exact : (s : List ℕ) (at count : ℕ) → Exact (end_case s at count)
end_exact s at count = unless_exact (NoSuch 0) at (ltb_exactly (byte_at s at) count)

ascend_exact : (s : List ℕ) (at low : ℕ) → Exact (ascend_case s at low)
ascend_exact s at low = unless_exact (NotAscending 0) at (leb_exactly low (two_at s at))

value_exactly : (c : Component) (v : ℕ) → (in_range arc_sum c v ≡ true) ↔ IsValue c v
value_exactly Dist v = let x = leb_exactly v arc_sum in (λ e. (tt, x.0 e), λ h. x.1 h.1)
value_exactly (Width w) v = let x = both_exactly (leb_exactly 1 v) (leb_exactly v w) in (λ e. (x.0 e, omega arith), λ h. x.1 h.0)
value_exactly (Class k) v = let x = leb_exactly v k in (λ e. (x.0 e, omega arith), λ h. x.1 h.0)
value_exactly Gain v = let x = leb_exactly v arc_sum in (λ e. (tt, x.0 e), λ h. x.1 h.1)

values_exact : (s : List ℕ) (cs : List Component) (at : ℕ) → AllExact (values_cases s cs at)
values_exact s [] at = no_more
values_exact s (c ∷ cs) at = unless_exact (Value 0) at (value_exactly c (two_at s at)) and values_exact s cs (at + 2)

left_over_exact : (s : List ℕ) (at : ℕ) → Exact (left_over_case s at)
left_over_exact s at = unless_exact (Bytes 0) at (leb_exactly (length s) at)

module _ (s : List ℕ) (h : Head) where
  record_exact : (list : Listing) (at low : ℕ) → AllExact (record_cases s h list at low)
  record_exact list at low =
      cut_exact s at (length_of h list) and end_exact s at h.n and end_exact s (at + 1) (seconds h list) and ascend_exact s at low
      and values_exact s (components_of h.language) (at + 2)

  records_exact : (list : Listing) (at low count : ℕ) → AllExact (records_cases s h list at low count)
  unfolding records_cases
  records_exact list at low zero = no_more
  records_exact list at low (suc count) =
      append_exact (record_exact list at low) (records_exact list (at + length_of h list) (two_at s at + 1) count)

  list_exact : (list : Listing) (at : ℕ) → AllExact (record_list_cases s h list at)
  list_exact list at = cut_exact s at 2 and records_exact list (at + 2) 0 (two_at s at)

  pub body_exact : (at : ℕ) → AllExact (body_cases s h at)
  body_exact at =
      append_exact (list_exact Arcs at) (
      append_exact (list_exact Attachments (list_end s h Arcs at)) (
      left_over_exact s (list_end s h Attachments (list_end s h Arcs at)) and no_more))

-- 01's order in a record: 1, 7, 8, 6
pub record_numbers : (s : List ℕ) (h : Head) (list : Listing) (at low : ℕ)
    → refusal_numbers (record_cases s h list at low) ≡ 1 ∷ 7 ∷ 7 ∷ 8 ∷ replicate (length (components_of h.language)) 6
record_numbers s h list at low = ap (λ (ns : List ℕ). 1 ∷ 7 ∷ 7 ∷ 8 ∷ ns) (sixes (components_of h.language) (at + 2))
  where
    sixes : (cs : List Component) (at : ℕ) → refusal_numbers (values_cases s cs at) ≡ replicate (length cs) 6
    sixes [] at = refl
    sixes (c ∷ cs) at = ap (6 ∷◌) (sixes cs (at + 2))

-- ---- and they are what the checks refuse

values_check_lem : (s : List ℕ) (cs : List Component) (at : ℕ) → values_check s cs at ≡ check_of (values_cases s cs at)
unfolding values_check
values_check_lem s [] at = refl
values_check_lem s (c ∷ cs) at = ap (result_and (value_case s c at).check) (values_check_lem s cs (at + 2))

module _ (s : List ℕ) (h : Head) where
  ends_check_lem : (list : Listing) (at : ℕ) → ends_check h at (ends_at s list at) ≡ result_and (end_case s at h.n).check (end_case s (at + 1) (seconds h list)).check
  unfolding ends_check
  ends_check_lem Arcs at = refl
  ends_check_lem Attachments at = refl

  record_check_lem : (list : Listing) (at low : ℕ) → record_check s h list at low ≡ check_of (record_cases s h list at low)
  unfolding record_check
  record_check_lem list at low =
      rw (ends_check_lem list at, values_check_lem s (components_of h.language) (at + 2))
      (ap (result_and (cut_case s at (length_of h list)).check)
      ((result_and_assoc (end_case s at h.n).check (end_case s (at + 1) (seconds h list)).check (check_of (ascend_case s at low ∷ values_cases s (components_of h.language) (at + 2))))))

  records_check_lem : (list : Listing) (at low count : ℕ) → records_check s h list at low count ≡ check_of (records_cases s h list at low count)
  unfolding records_check records_cases
  records_check_lem list at low zero = refl
  records_check_lem list at low (suc count) =
      check_in_turn (record_cases s h list at low) (records_cases s h list (at + length_of h list) (two_at s at + 1) count) (record_check_lem list at low)
      (records_check_lem list (at + length_of h list) (two_at s at + 1) count)

  list_check : (list : Listing) (at : ℕ) → record_list_check s h list at ≡ check_of (record_list_cases s h list at)
  unfolding record_list_check
  list_check list at = ap (result_and (cut_case s at 2).check) (records_check_lem list (at + 2) 0 (two_at s at))

  pub body_check_lem : (at : ℕ) → body_check s h at ≡ check_of (body_cases s h at)
  unfolding body_check
  body_check_lem at =
      let mid = list_end s h Arcs at in
      let last = left_over_case s (list_end s h Attachments mid) in
      check_in_turn (record_list_cases s h Arcs at) (record_list_cases s h Attachments mid ++ (last ∷ [])) (list_check Arcs at)
      (check_in_turn (record_list_cases s h Attachments mid) (last ∷ []) (list_check Attachments mid) (sym (or_passed last.check)))
