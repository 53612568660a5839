-- The search over k: where an entry stands, one test, and the loop that looks for the lowest k.
use Prim.Native.Nat.{ℕ, suc, ◌+◌, ◌-◌, ◌≤◌, ◌<◌}
use mathlib.Core.Path.{◌≡◌, sym, ap, ap₂, ◌∙◌}
use mathlib.Core.Bool.{Bool, true, false, cond, ◌||◌, or-true}
use mathlib.Core.List.{List}
use Rattle.std.specs.Prelude.{Option, Some, None}
use native.Mathlib.Omega.{arith}
use native.Mathlib.Numerals.{add-one}
use lib.Dec.{eqb}
use lib.ListN.{length}
use borrow.Author.Tests.{eq-eqb, ne_eqb}
use Rattle.weights.specs.declared.Component.{Component}
use Rattle.weights.specs.Sizes.{weight_words}
use Rattle.weights.specs.Weights.{Weight, none, route, join}
use Rattle.weights.specs.Values.{same}
use Rattle.matrices.specs.Buffers.{entry_place, Square}
use Rattle.matrices.specs.Steps.{Matrix}
use Rattle.matrices.proofs.Blocks.{place_room, square_small}
use Rattle.hops.specs.NextHop.{is_hop, lowest_from, hop_of}

-- an entry lies within the matrix, which is small
pub entry_room : (n i j : ℕ) (s : List ℕ) → Square n s → i < n → j < n → (entry_place n i j + weight_words ≤ length s) × (length s ≤ 1024)
entry_room n i j s q hi hj = (omega (arith, place_room n i j hi hj, q.long), omega (arith, square_small n q.few, q.long))

-- ---- one k

pub hop_self : (cs : List Component) (A R : Matrix) (i j k : ℕ) → k ≡ i → false ≡ is_hop cs A R i j k
hop_self cs A R i j k e = rw (eq-eqb k i e)

pub hop_other : (cs : List Component) (A R : Matrix) (i j k : ℕ) (x y z w : Weight) {b : Bool} → (k ≡ i → ⊥) → x ≡ A i k → y ≡ R k j → z ≡ join cs x y → w ≡ R i j → b ≡ same z w → b ≡ is_hop cs A R i j k
hop_other cs A R i j k x y z w f p q e g h = h ∙ ap₂ same (e ∙ ap₂ (join cs) p q) g ∙ rw (ne_eqb k i f)

-- ---- the loop

module _ (test : ℕ → Bool) where
  left : (n k : ℕ) → k < n → n - k ≡ suc (n - (k + 1))
  left n k h = omega arith

  pub lowest_start : (n : ℕ) → lowest_from test 0 n ≡ lowest_from test 0 (n - 0)
  lowest_start n = let e : n ≡ n - 0 = omega arith in ap (lowest_from test 0) e

  -- the search from k on stops at k ..
  pub lowest_here : (n k : ℕ) → k < n → test k ≡ true → lowest_from test k (n - k) ≡ Some k
  unfolding lowest_from
  lowest_here n k h e = ap (lowest_from test k) (left n k h) ∙ rw e

  -- .. or goes on after it
  pub lowest_later : (n k : ℕ) → k < n → test k ≡ false → lowest_from test k (n - k) ≡ lowest_from test (k + 1) (n - (k + 1))
  unfolding lowest_from
  lowest_later n k h e = ap (lowest_from test k) (left n k h) ∙ rw (e, add-one k)

  pub lowest_end : (n k : ℕ) → n ≤ k → lowest_from test k (n - k) ≡ None
  unfolding lowest_from
  lowest_end n k h = let e : n - k ≡ 0 = omega arith in ap (lowest_from test k) e

-- ---- where there is none

pub hop_same : (cs : List Component) (n : ℕ) (A R : Matrix) (i j : ℕ) → i ≡ j → None ≡ hop_of cs n A R i j
hop_same cs n A R i j e = rw (eq-eqb i j e)

pub hop_none : (cs : List Component) (n : ℕ) (A R : Matrix) (i j : ℕ) → none ≡ R i j → None ≡ hop_of cs n A R i j
hop_none cs n A R i j e = rw (← e, or-true (eqb i j))

pub hop_some : (cs : List Component) (n : ℕ) (A R : Matrix) (i j : ℕ) {xs : List ℕ} {f : Option ℕ} → (i ≡ j → ⊥) → route xs ≡ R i j → f ≡ lowest_from (is_hop cs A R i j) 0 n → f ≡ hop_of cs n A R i j
hop_some cs n A R i j d e g = g ∙ ap₂ (λ (a b : Bool). cond (a || b) None (lowest_from (is_hop cs A R i j) 0 n)) (sym (ne_eqb i j d)) (ap (λ (w : Weight). same w none) e)
