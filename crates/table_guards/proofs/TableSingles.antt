-- The single checks that only forwarding has, one by one: when each passes, and what is known then.
use Prim.Native.Nat.{ℕ, ◌*◌, ◌≤◌, ◌<◌}
use mathlib.Core.Path.{◌≡◌, sym, ◌∙◌}
use mathlib.Core.Bool.{Bool, true, false, not, ◌||◌}
use mathlib.Core.List.{List}
use native.Mathlib.Omega.{arith}
use lib.Dec.{leb, eqb}
use lib.ListN.{length}
use borrow.Author.Tests.{leb-true, lt-leb, le-leb, eqb-true, eq-eqb, ne_eqb}
use Rattle.refusals.specs.declared.Refusal.TheVariants.{Size, Length, Law}
use Rattle.refusals.specs.Checks.{unless, Check}
use Rattle.refusals.proofs.First.{unless_passes}
use Rattle.weights.specs.declared.Component.{Component}
use Rattle.weights.specs.Sizes.{entry_words}
use Rattle.weights.specs.Laws.{test_c}
use Rattle.modes.specs.declared.Mode.{Mode}
use Rattle.modes.specs.Entries.{needs_c}
use Rattle.tables.specs.Tables.{Sized}
use Rattle.table_guards.specs.Checks.{most_destinations, destinations_case, table_length_case, law_c_check, table_length_measured}
use Rattle.guards.specs.Checks.{most_nodes}
use Rattle.std.specs.Prelude.{Ok, Err}

pub destinations_high : (m : ℕ) → most_destinations < m → Err (Size 2 0) ≡ (destinations_case m).check
destinations_high m h = rw (lt-leb m most_destinations h)

pub destinations_in : (m : ℕ) → m ≤ most_destinations → (Ok tt) ≡ (destinations_case m).check
destinations_in m h = rw (le-leb m most_destinations h)

pub destinations_passed : (m : ℕ) → (destinations_case m).check ≡ Ok tt → m ≤ 32
destinations_passed m e = leb-true m 32 (unless_passes (leb m 32) (Size 2 0) e)

pub length_other : (which n m : ℕ) (s : List ℕ) → (length s ≡ n * (m * entry_words) → ⊥) → Err (Length which 0) ≡ (table_length_case which n m s).check
length_other which n m s f = rw (ne_eqb (length s) (n * (m * entry_words)) f)

pub length_same : (which n m : ℕ) (s : List ℕ) → length s ≡ n * (m * entry_words) → (Ok tt) ≡ (table_length_case which n m s).check
length_same which n m s e = rw (eq-eqb (length s) (n * (m * entry_words)) e)

module _ (which n m : ℕ) (s : List ℕ) where
  both_few : n ≤ most_nodes → m ≤ most_destinations → table_length_measured which n m s ≡ (table_length_case which n m s).check
  both_few h k = rw (le-leb n most_nodes h, le-leb m most_destinations k)

  -- a length that is measured, where n is at most 16 and m at most 32
  pub table_measured : {c : Check} → (n ≤ most_nodes) × (m ≤ most_destinations) → c ≡ table_length_measured which n m s → c ≡ (table_length_case which n m s).check
  table_measured (h, k) e = e ∙ both_few h k

  pub table_length_measured_lem : {c : Check} → n ≤ most_nodes → m ≤ most_destinations → c ≡ (table_length_case which n m s).check → c ≡ table_length_measured which n m s
  table_length_measured_lem h k e = e ∙ sym (both_few h k)

pub many_nodes_unmeasured : (which n m : ℕ) (s : List ℕ) → most_nodes < n → (Ok tt) ≡ table_length_measured which n m s
many_nodes_unmeasured which n m s h = rw (lt-leb n most_nodes h)

pub many_destinations_unmeasured : (which n m : ℕ) (s : List ℕ) → n ≤ most_nodes → most_destinations < m → (Ok tt) ≡ table_length_measured which n m s
many_destinations_unmeasured which n m s h k = rw (le-leb n most_nodes h, lt-leb m most_destinations k)

pub table_length_passed : (which n m : ℕ) (s : List ℕ) → n ≤ 16 → m ≤ 32 → (table_length_case which n m s).check ≡ Ok tt → Sized n m s
table_length_passed which n m s h k e = record {
  few_nodes = h;
  few_destinations = k;
  long = eqb-true (length s) (n * (m * entry_words)) (unless_passes (eqb (length s) (n * (m * entry_words))) (Length which 0) e);
}

pub law_c_free : (mode : Mode) (cs : List Component) → needs_c mode ≡ false → (Ok tt) ≡ law_c_check mode cs
law_c_free mode cs e = rw e

pub law_c_tested : (mode : Mode) (cs : List Component) (b : Bool) → needs_c mode ≡ true → test_c cs ≡ b → unless b (Law 3 0) ≡ law_c_check mode cs
law_c_tested mode cs b e f = rw (e, f)

pub law_c_passed : (mode : Mode) (cs : List Component) → law_c_check mode cs ≡ Ok tt → needs_c mode ≡ true → test_c cs ≡ true
law_c_passed mode cs e h = go (needs_c mode) h (unless_passes (not (needs_c mode) || test_c cs) (Law 3 0) e)
  where
    go : (b : Bool) → b ≡ true → (not b || test_c cs) ≡ true → test_c cs ≡ true
    go true p q = q
    go false p q = absurd (apart p)
      where
        apart : false ≡ true → ⊥
        apart z = let y : ◌≡◌ {A = ℕ} 0 1 = cc in omega arith
