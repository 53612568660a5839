-- The whole text, step by step: the forwarding call, the buffers of zeros, and the text by the reader's answer.
use Prim.Native.Nat.{ℕ, zero, suc, ◌*◌, ◌≤◌, ◌<◌}
use mathlib.Core.Path.{◌≡◌, refl, sym, ap, ◌∙◌}
use mathlib.Core.List.{List, ◌∷◌, ◌++◌}
use native.Mathlib.Nat.{mul-le-mul, mul-le-mul_right}
use native.Mathlib.Omega.{arith}
use lib.ListN.{length, take, replicate, length-replicate}
use Rattle.refusals.specs.declared.Refusal.{Refusal}
use Rattle.refusals.specs.declared.Told.{Told}
use Rattle.refusals.specs.Told.{told}
use Rattle.refusals.specs.Checks.{answer_told}
use Rattle.weights.specs.declared.Language.{Language}
use Rattle.weights.specs.Sizes.{places, weight_words, entry_words}
use Rattle.matrices.specs.Buffers.{Square}
use Rattle.tables.specs.Tables.{Sized}
use Rattle.forwarding.specs.Calls.{forward_check, forward_left, OnTables, on_tables}
use Rattle.files.specs.Answers.{problem_read, ReadSays}
use Rattle.std.specs.Prelude.{Err}
use Rattle.encoded.proofs.Sizes.{head_in_ranges}
use Rattle.encoded.proofs.WellFormed.{done_means}
use Rattle.decimals.specs.Texts.{Put}
use Rattle.decimals.proofs.Putting.{put_as}
use Rattle.texts.specs.Lines.{refused_line}
use Rattle.printing.specs.Work.{routes_told, routes_left, blank, table_told, table_left, blank_table}
use Rattle.printing.specs.Printed.{laws_part, routes_part, forward_part, text_with, text_of, printed}
use Rattle.printing.proofs.Answered.{text_done, text_refused}
use Rattle.guards.specs.OnNetwork.{OnNetwork, on_network}

-- ---- the forwarding call

module _ (T : OnTables) (f f₁ : List ℕ) (t : Told) where
  pub table_tried : (x : Told) → x ≡ answer_told (forward_check T f) → f₁ ≡ forward_left T f → t ≡ x
      → (t ≡ table_told T f) × (f₁ ≡ table_left T f)
  unfolding table_told table_left
  table_tried x e q h = (h ∙ e, q)

-- ---- the buffers

pub matrix_small : (n : ℕ) → n ≤ 16 → n * (n * 4) ≤ 1024
matrix_small n h = mul-le-mul h (mul-le-mul_right 4 h)

pub table_small : (n m : ℕ) → n ≤ 16 → m ≤ 32 → n * (m * 5) ≤ 2560
table_small n m h g = mul-le-mul h (mul-le-mul_right 5 g)

-- the front of a buffer of zeros
pub zeros : (k n : ℕ) → k ≤ n → take {A = ℕ} k (replicate n 0) ≡ replicate k 0
zeros zero n h = refl
zeros (suc k) zero h = absurd (omega arith)
zeros (suc k) (suc n) h = ap (λ (s : List ℕ). 0 ∷ s) (zeros k n (omega arith))

pub blank_square : (n : ℕ) (r r₁ : List ℕ) → n ≤ 16 → r ≡ blank n → length r₁ ≡ length r → Square n r₁
blank_square n r r₁ h e k = record { few = h; long = k ∙ ap length e ∙ length-replicate (n * (n * weight_words)) 0 }

pub blank_sized : (n m : ℕ) (f f₁ : List ℕ) → n ≤ 16 → m ≤ 32 → f ≡ blank_table n m → length f₁ ≡ length f → Sized n m f₁
blank_sized n m f f₁ h g e k = record {
  few_nodes = h;
  few_destinations = g;
  long = k ∙ ap length e ∙ length-replicate (n * (m * entry_words)) 0;
}

-- ---- the text

module _ (N : OnNetwork) (m mode : ℕ) (s : List ℕ) {x y : List ℕ} {end : ℕ} where
  -- what the calls tell and leave on buffers of zeros gives the text of the network
  pub worked_text : (r r₁ f f₁ : List ℕ) (t u : Told) → r ≡ blank N.n → f ≡ blank_table N.n m
      → t ≡ routes_told N r → r₁ ≡ routes_left N r → u ≡ table_told (on_tables N m mode r₁ s) f → f₁ ≡ table_left (on_tables N m mode r₁ s) f
      → Put 57976 x 0 (laws_part N.language ++ routes_part N.language N.n t r₁ (forward_part N.language N.n m mode u f₁)) y end
      → Put 57976 x 0 (text_of N m mode s) y end
  unfolding text_of
  worked_text r r₁ f f₁ t u er ef et q eu v p =
      put_as p
      (ap (λ (z : Told). laws_part N.language ++ routes_part N.language N.n z r₁ (forward_part N.language N.n m mode u f₁)) (et ∙ ap (routes_told N) er)
      ∙ ap (λ (z : Told). laws_part N.language ++ routes_part N.language N.n (routes_told N (blank N.n)) r₁ (forward_part N.language N.n m mode z f₁)) (eu ∙ ap (table_told (on_tables N m mode r₁ s)) ef)
      ∙ ap (λ (z : List ℕ). laws_part N.language ++ routes_part N.language N.n (routes_told N (blank N.n)) r₁ (forward_part N.language N.n m mode (table_told (on_tables N m mode r₁ s) (blank_table N.n m)) z)) (v ∙ ap (table_left (on_tables N m mode r₁ s)) ef)
      ∙ ap (λ (z : List ℕ). text_with (on_tables N m mode z s)) (q ∙ ap (routes_left N) er))
      (omega arith)

module _ (s a m a' m' : List ℕ) where
  -- a bad file
  pub refused_text : {x y : List ℕ} {end : ℕ} (r : Refusal) (t : Told) → 1024 ≤ length a → 2560 ≤ length m → ReadSays s a m a' m' (Err r) → t ≡ told r
      → Put 41 x 0 (refused_line t) y end → Put 57976 x 0 (printed s) y end
  refused_text r t g h w e p = put_as p (ap refused_line e ∙ sym (text_refused s a m a' m' r g h w)) (omega arith)

  module _ (n k mode : ℕ) (l : Language) (w : ReadSays s a m a' m' (problem_read n k mode l)) where
    pub done_text : {x y : List ℕ} {end : ℕ} → Put 57976 x 0 (text_of (on_network l n (take (n * (n * weight_words)) a')) k mode (take (n * (k * entry_words)) m')) y end
        → Put 57976 x 0 (printed s) y end
    done_text p = put_as p (sym (text_done s a m a' m' n k mode l w)) (omega arith)

    pub done_in_ranges : (0 < n) × (n ≤ 16) × (k ≤ 32) × (l.count ≤ places)
    done_in_ranges =
        let d = done_means s a m a' m' n k mode l w in
        let h = head_in_ranges s d.next d.head d.read in (
          omega (arith, h.nodes.0, d.n_is),
          omega (arith, h.nodes.1, d.n_is),
          omega (arith, h.destinations, d.m_is),
          omega (arith, h.components.1, ap (λ (z : Language). z.count) d.language_is),
        )
