-- The words of entries one after another: their lengths, an entry written, and the words of an entry of a table.
use Prim.Native.Nat.{ℕ, ◌+◌, ◌*◌, ◌≤◌, ◌<◌}
use mathlib.Core.Path.{◌≡◌, refl, sym, ap, ◌∙◌}
use mathlib.Core.List.{List, [], ◌∷◌, ◌++◌, append_assoc}
use native.Mathlib.Omega.{arith}
use lib.ListN.{length, take, drop, length-append, take-append-drop}
use lib.Seq.{sets, sets-eq, drop-drop}
use Rattle.weights.specs.Sizes.{weight_words, entry_words}
use Rattle.weights.specs.Words.{filled}
use Rattle.weights.proofs.Readings.{length_filled}
use Rattle.matrices.proofs.Blocks.{length_blocks, blocks_at, front_at, blocks_cong}
use Rattle.modes.specs.Entries.{Entry, empty, mapped}
use Rattle.tables.specs.Tables.{words_of, table_row_words, table_words, entry_at, table_place}

pub length_entry : (e : Entry) → length (words_of e) ≡ entry_words
unfolding words_of
length_entry empty = refl
length_entry (mapped xs t) = length-append (filled weight_words xs) (t ∷ []) ∙ omega (arith, length_filled weight_words xs)

pub length_row : (m : ℕ) (g : ℕ → Entry) → length (table_row_words m g) ≡ m * entry_words
length_row m g = length_blocks entry_words (λ d. words_of (g d)) (λ d. length_entry (g d)) m

pub length_table : (n m : ℕ) (M : ℕ → ℕ → Entry) → length (table_words n m M) ≡ n * (m * entry_words)
length_table n m M = length_blocks (m * entry_words) (λ i. table_row_words m (M i)) (λ i. length_row m (M i)) n

-- an entry written at p
pub write_is : (s : List ℕ) (p : ℕ) (e : Entry) → p + entry_words ≤ length s → sets s p (words_of e) ≡ take p s ++ (words_of e ++ drop entry_words (drop p s))
write_is s p e h =
    let q : length (words_of e) ≡ entry_words = length_entry e in
    sets-eq (words_of e) s p (omega arith) ∙ append_assoc (take p s) (words_of e) _ ∙ rw (q, drop-drop)

-- tables that agree have the same words
pub table_cong : (n m : ℕ) (M T : ℕ → ℕ → Entry) → ((i d : ℕ) → i < n → d < m → words_of (M i d) ≡ words_of (T i d)) → table_words n m M ≡ table_words n m T
table_cong n m M T e = blocks_cong _ _ n (λ i hi. blocks_cong _ _ m (λ d hd. e i d hi hd))

-- the words of entry (i, d)
pub table_five : (n m : ℕ) (M : ℕ → ℕ → Entry) (i d : ℕ) → i < n → d < m → entry_at (table_words n m M) (table_place m i d) ≡ words_of (M i d)
table_five n m M i d hi hd =
    let l : List ℕ = drop (i * (m * entry_words)) (table_words n m M) in
    let e : l ≡ table_row_words m (M i) ++ drop (m * entry_words) l = sym (take-append-drop (m * entry_words) l) ∙ ap (λ (k : List ℕ). k ++ drop (m * entry_words) l) (blocks_at (m * entry_words) (λ i. table_row_words m (M i)) (λ i. length_row m (M i)) n i hi) in
    ap (take entry_words) (sym (drop-drop (d * entry_words) (i * (m * entry_words)) (table_words n m M)) ∙ ap (drop (d * entry_words)) e)
    ∙ front_at entry_words (λ d. words_of (M i d)) (λ d. length_entry (M i d)) m d (drop (m * entry_words) l) hd
