-- Lines put row after row: one line more, and a weight or an entry of four places cut to those of the language.
use Prim.Native.Nat.{ℕ, zero, suc, ◌+◌, ◌*◌, ◌≤◌}
use mathlib.Core.Path.{◌≡◌, refl, sym, ap, ◌∙◌}
use mathlib.Core.Bool.{Bool, true, false, cond}
use mathlib.Core.List.{List, [], ◌∷◌}
use native.Mathlib.Nat.{suc-mul, zero-mul}
use native.Mathlib.Numerals.{add-one}
use native.Mathlib.Omega.{arith}
use lib.ListN.{take, drop}
use Rattle.weights.specs.Sizes.{places, weight_words, ones}
use Rattle.weights.specs.Weights.{Weight, none, route}
use Rattle.weights.specs.Words.{all_are, decoded}
use Rattle.matrices.specs.Buffers.{blocks, words_at, cell}
use Rattle.matrices.proofs.Blocks.{blocks_suc}
use Rattle.modes.specs.Entries.{Entry, empty, mapped}
use Rattle.tables.specs.Tables.{decoded_entry, entry_at, table_place, table_in, word_of_t}
use Rattle.decimals.specs.Texts.{Put}
use Rattle.decimals.proofs.Putting.{put_none, put_then, put_as}
use Rattle.texts.specs.Parts.{first_values, first_of_entry}

-- ---- text that grows by blocks

module _ (k : ℕ) (f : ℕ → List ℕ) (s₀ : List ℕ) (at : ℕ) where
  -- the first i texts stand from at on
  abbrev pub Grown : ℕ → List ℕ → ℕ → Type 0
  Grown i s end = Put (i * k) s₀ at (blocks i f) s end

  pub grown_none : Grown 0 s₀ at
  unfolding blocks
  grown_none = put_as (put_none s₀ at) refl (omega (arith, zero-mul k))

  pub grown_more : (i : ℕ) {s₁ s₂ : List ℕ} {e₁ e₂ : ℕ} → Grown i s₁ e₁ → Put k s₁ e₁ (f i) s₂ e₂ → Grown (i + 1) s₂ e₂
  grown_more i p q = put_as (put_then p q) (sym (blocks_suc f i)) (omega (arith, suc-mul i k, ap (λ (z : ℕ). z * k) (add-one i)))

-- ---- of four places, those of the language

take_less : (k m : ℕ) (xs : List ℕ) → k ≤ m → take k (take m xs) ≡ take k xs
take_less zero m xs h = refl
take_less (suc k) zero xs h = absurd (omega arith)
take_less (suc k) (suc m) [] h = refl
take_less (suc k) (suc m) (x ∷ xs) h = ap (λ (l : List ℕ). x ∷ l) (take_less k m xs (omega arith))

first_decoded : (k : ℕ) (ws : List ℕ) → k ≤ places → first_values k (decoded places ws) ≡ decoded k ws
first_decoded k ws h = go (all_are ones ws)
  where
    go : (b : Bool) → first_values k (cond b none (route (take places ws))) ≡ cond b none (route (take k ws))
    go true = refl
    go false = ap route (take_less k places ws h)

-- the weight at a place of a buffer, read in four places
pub first_cell : (k p : ℕ) (s : List ℕ) (w : Weight) → k ≤ places → w ≡ decoded places (take weight_words (drop p s)) → first_values k w ≡ cell k s p
unfolding cell
first_cell k p s w h e = ap (first_values k) e ∙ first_decoded k (words_at s p) h

first_entry : (k : ℕ) (ws : List ℕ) → k ≤ places → first_of_entry k (decoded_entry places ws) ≡ decoded_entry k ws
first_entry k ws h = go (all_are ones ws)
  where
    go : (b : Bool) → first_of_entry k (cond b empty (mapped (take places ws) (word_of_t ws))) ≡ cond b empty (mapped (take k ws) (word_of_t ws))
    go true = refl
    go false = ap (λ (xs : List ℕ). mapped xs (word_of_t ws)) (take_less k places ws h)

-- an entry of a table, looked up in four places
pub first_table : (k m i d : ℕ) (s : List ℕ) (e : Entry) → k ≤ places → e ≡ table_in places m s i d → first_of_entry k e ≡ table_in k m s i d
unfolding table_in
first_table k m i d s e h q = ap (first_of_entry k) q ∙ first_entry k (entry_at s (table_place m i d)) h
