-- The single checks of a network, one by one: when each passes, and what is known then.
use Prim.Native.Nat.{ℕ, ◌*◌, ◌≤◌, ◌<◌}
use mathlib.Core.Path.{◌≡◌, refl, sym, ap, ◌∙◌}
use mathlib.Core.Bool.{Bool, true, false, ◌&&◌, and-false, cond}
use mathlib.Core.List.{List}
use native.Mathlib.Omega.{arith}
use lib.Dec.{leb, ltb, eqb}
use lib.ListN.{length}
use borrow.Author.Tests.{leb-true, lt-leb, le-leb, ltb-true, lt-ltb, le-ltb, eqb-true, eq-eqb, ne_eqb}
use Rattle.refusals.specs.declared.Refusal.TheVariants.{Size, NoSuch, Length}
use Rattle.refusals.proofs.First.{unless_passes}
use Rattle.weights.specs.Sizes.{weight_words}
use Rattle.matrices.specs.Buffers.{Square}
use Rattle.guards.specs.Checks.{nodes_case, length_case, node_case, most_nodes}
use Rattle.guards.specs.Entrance.{length_measured}
use Rattle.refusals.specs.Checks.{Check}
use Rattle.std.specs.Prelude.{Ok, Err}

pub nodes_low : (n : ℕ) → n < 1 → Err (Size 1 0) ≡ (nodes_case n).check
nodes_low n h = rw (lt-leb 1 n h)

pub nodes_high : (n : ℕ) → most_nodes < n → Err (Size 1 0) ≡ (nodes_case n).check
nodes_high n h = rw (lt-leb n most_nodes h, and-false)

pub nodes_in : (n : ℕ) → 1 ≤ n → n ≤ most_nodes → (Ok tt) ≡ (nodes_case n).check
nodes_in n h k = rw (le-leb 1 n h, le-leb n most_nodes k)

pub nodes_passed : (n : ℕ) → (nodes_case n).check ≡ Ok tt → (1 ≤ n) × (n ≤ 16)
nodes_passed n e = go (leb 1 n) (leb n 16) refl refl (unless_passes (leb 1 n && leb n 16) (Size 1 0) e)
  where
    go : (a b : Bool) → leb 1 n ≡ a → leb n 16 ≡ b → (a && b) ≡ true → (1 ≤ n) × (n ≤ 16)
    go true true p q h = (leb-true 1 n p, leb-true n 16 q)
    go true false p q h = absurd (false_true h)
      where
        false_true : false ≡ true → ⊥
        false_true z = let y : ◌≡◌ {A = ℕ} 0 1 = cc in omega arith
    go false b p q h = absurd (false_true h)
      where
        false_true : false ≡ true → ⊥
        false_true z = let y : ◌≡◌ {A = ℕ} 0 1 = cc in omega arith

pub length_other : (which n : ℕ) (s : List ℕ) → (length s ≡ n * (n * weight_words) → ⊥) → Err (Length which 0) ≡ (length_case which n s).check
length_other which n s f = rw (ne_eqb (length s) (n * (n * weight_words)) f)

pub length_same : (which n : ℕ) (s : List ℕ) → length s ≡ n * (n * weight_words) → (Ok tt) ≡ (length_case which n s).check
length_same which n s e = rw (eq-eqb (length s) (n * (n * weight_words)) e)

-- a length that is measured, where n is at most 16
pub measured : (which n : ℕ) (s : List ℕ) {c : Check} → n ≤ most_nodes → c ≡ length_measured which n s → c ≡ (length_case which n s).check
measured which n s h e = e ∙ ap (λ (b : Bool). cond b (length_case which n s).check (Ok tt)) (le-leb n most_nodes h)

pub length_unmeasured : (which n : ℕ) (s : List ℕ) → most_nodes < n → (Ok tt) ≡ length_measured which n s
length_unmeasured which n s h = rw (lt-leb n most_nodes h)

pub length_measured_lem : (which n : ℕ) (s : List ℕ) {c : Check} → n ≤ most_nodes → c ≡ (length_case which n s).check → c ≡ length_measured which n s
length_measured_lem which n s h e = e ∙ sym (ap (λ (b : Bool). cond b (length_case which n s).check (Ok tt)) (le-leb n most_nodes h))

pub length_passed : (which n : ℕ) (s : List ℕ) → n ≤ 16 → (length_case which n s).check ≡ Ok tt → Square n s
length_passed which n s h e = record { few = h; long = eqb-true (length s) (n * (n * weight_words)) (unless_passes (eqb (length s) (n * (n * weight_words))) (Length which 0) e) }

pub node_in : (place n i : ℕ) → i < n → (Ok tt) ≡ (node_case place n i).check
node_in place n i h = rw (lt-ltb i n h)

pub node_out : (place n i : ℕ) → n ≤ i → Err (NoSuch 0 place) ≡ (node_case place n i).check
node_out place n i h = rw (le-ltb i n h)

pub node_passed : (place n i : ℕ) → (node_case place n i).check ≡ Ok tt → i < n
node_passed place n i e = ltb-true i n (unless_passes (ltb i n) (NoSuch 0 place) e)
