-- Entries and their words, in the language: an entry that is written reads back, and what is well-formed has small sums.
use Prim.Native.Nat.{ℕ, ◌≤◌}
use mathlib.Core.Path.{◌≡◌, refl, subst, ◌∙◌}
use mathlib.Core.Bool.{Bool, true, false, cond, ◌&&◌, and-false, false≢true}
use mathlib.Core.List.{List, [], ◌∷◌, ◌++◌}
use native.Mathlib.Omega.{arith}
use borrow.Author.Tests.{ne_eqb}
use lib.Dec.{leb, eqb}
use lib.ListN.{length, get_or, take}
use lib.Seq.{take-append-le, take-take, get_or-append_seam}
use Rattle.weights.specs.declared.Component.{Component}
use Rattle.weights.specs.Sizes.{weight_words, ones}
use Rattle.weights.specs.Weights.{none, route}
use Rattle.weights.specs.Words.{filled, all_are, fits, good, malformed}
use Rattle.weights.proofs.Readings.{values, length_filled, take_filled}
use Rattle.weights.specs.Sums.{sum_of, sum_at}
use Rattle.weights.proofs.Sums.{well_sum}
use Rattle.modes.specs.declared.Mode.{Mode}
use Rattle.modes.specs.declared.Mode.TheVariants.{Plain, Hot, Cold}
use Rattle.modes.specs.Entries.{Entry, empty, mapped, largest_t, ValidT, ValidEntry}
use Rattle.tables.specs.Tables.{words_of, word_of_t, good_entry, bad_entry, reads_route, reading_entry, is_good_entry, decoded_entry}
use Rattle.modes.specs.Gains.{weight_in}

-- ---- written, and read back

-- one word that is not w is enough
all_last : (w : ℕ) (l : List ℕ) (t : ℕ) → eqb t w ≡ false → all_are w (l ++ t ∷ []) ≡ false
all_last w [] t e = rw e
all_last w (x ∷ l) t e = rw (all_last w l t e) (and-false (eqb x w))

small_t : (mode : Mode) (t : ℕ) → ValidT mode t → eqb t ones ≡ false
small_t Plain t h = ne_eqb t ones (λ e. omega arith)
small_t Hot t h = ne_eqb t ones (λ e. omega arith)
small_t Cold t h = ne_eqb t ones (λ e. omega arith)

decoded_mapped : (k : ℕ) (ws xs : List ℕ) (t : ℕ) → all_are ones ws ≡ false → take k ws ≡ xs → word_of_t ws ≡ t → decoded_entry k ws ≡ mapped xs t
decoded_mapped k ws xs t p q r = rw (p, q, r)

-- the words of a valid entry stand for it
pub entry_back : (mode : Mode) (cs : List Component) (e : Entry) → length cs ≤ weight_words → ValidEntry (ValidT mode) cs e → decoded_entry (length cs) (words_of e) ≡ e
unfolding words_of
entry_back mode cs empty h v = refl
entry_back mode cs (mapped xs t) h v =
    let q : length (filled weight_words xs) ≡ weight_words = length_filled weight_words xs in
    decoded_mapped (length cs) (filled weight_words xs ++ t ∷ []) xs t (all_last ones (filled weight_words xs) t (small_t mode t v.1))
    (take-append-le (length cs) (filled weight_words xs) (t ∷ []) (omega arith) ∙ take_filled weight_words cs xs h v.0)
    (subst (λ (k : ℕ). get_or (filled weight_words xs ++ t ∷ []) k 0 ≡ t) q (get_or-append_seam (filled weight_words xs) t [] 0))

-- ---- the sums of a well-formed entry

pub entry_sum : (mode : Mode) (cap : ℕ) (cs : List Component) (c : ℕ) (ws : List ℕ) → length cs ≤ weight_words → is_good_entry (reading_entry mode cap cs ws) ≡ true
    → sum_at cs c (weight_in (decoded_entry (length cs) ws)) ≤ cap
entry_sum mode cap cs c ws h = go (all_are ones ws) (all_are ones (take weight_words ws)) refl (fits cap cs (take weight_words ws)) refl (leb (word_of_t ws) (largest_t mode))
  where
    go : (x y : Bool) → all_are ones (take weight_words ws) ≡ y → (z : Bool) → fits cap cs (take weight_words ws) ≡ z → (v : Bool)
        → is_good_entry (cond x (good_entry empty) (cond (reads_route (cond y (good none) (cond z (good (route (take (length cs) (take weight_words ws)))) malformed)) && v) (good_entry (mapped (take (length cs) ws) (word_of_t ws))) bad_entry)) ≡ true
        → sum_at cs c (weight_in (cond x empty (mapped (take (length cs) ws) (word_of_t ws)))) ≤ cap
    go true y p z q v e = omega arith
    go false true p z q v e = absurd (false≢true e)
    go false false p false q v e = absurd (false≢true e)
    go false false p true q false e = absurd (false≢true e)
    go false false p true q true e = subst (λ (xs : List ℕ). sum_of cs c xs ≤ cap) (take-take (length cs) weight_words ws h) (rw p at (well_sum cap cs c (take weight_words ws) (values p q)))
