-- The entries of a buffer and the words of its entries: a buffer is the words of its entries, and a weight that is written is read back.
use mathlib.Core.Path.{◌≡◌, refl, sym, ap, ap₂, ◌∙◌, subst}
use mathlib.Core.List.{List, [], ◌∷◌, ◌++◌, append_assoc, append-nil}
use mathlib.Core.Bool.{Bool, true, false, cond, ◌&&◌, and-eq-true_iff}
use Prim.Native.Nat.{ℕ, ◌+◌, ◌*◌, ◌≤◌, ◌<◌}
use native.Mathlib.Numerals.{add-one}
use native.Mathlib.Omega.{arith}
use borrow.Author.Tests.{eqb-true}
use lib.Dec.{eqb}
use lib.ListN.{length, get_or, take, drop, length-drop, take-append-drop, set}
use lib.Seq.{sets, sets-eq, drop-drop, take_all, length-take-le, drop-cons, set_at, take-suc, append_snoc, drop-length}
use Rattle.weights.specs.declared.Component.{Component}
use Rattle.weights.specs.Sizes.{places, weight_words, ones}
use Rattle.weights.specs.Weights.{Weight, none, route, better, better_of, join}
use Rattle.weights.specs.Gains.{loses}
use Rattle.weights.specs.Words.{words, all_are, decoded}
use Rattle.weights.proofs.Ordering.{better_of_first, better_of_second}
use Rattle.weights.proofs.Gains.{loses_stays}
use Rattle.weights.proofs.Readings.{length_filled}
use Rattle.matrices.specs.Buffers.{row_words, matrix_words, entry_place, words_at, cell, row_in, matrix_in, Square}
use Rattle.matrices.specs.Steps.{Matrix}
use Rattle.matrices.proofs.Blocks.{blocks_take, blocks_cong, blocks_put, blocks_at, front_at, length_blocks, place_room, block_room, square_small}

-- ---- the words of a weight

pub length_words : (w : Weight) → length (words w) ≡ weight_words
unfolding words
length_words none = refl
length_words (route xs) = length_filled weight_words xs

pub length_row : (n : ℕ) (g : ℕ → Weight) → length (row_words n g) ≡ n * weight_words
length_row n g = length_blocks weight_words (λ j. words (g j)) (λ j. length_words (g j)) n

pub length_matrix : (n : ℕ) (R : Matrix) → length (matrix_words n R) ≡ n * (n * weight_words)
length_matrix n R = length_blocks (n * weight_words) (λ i. row_words n (R i)) (λ i. length_row n (R i)) n

ones_are : (a b c d : ℕ) → all_are ones (a ∷ b ∷ c ∷ d ∷ []) ≡ true → ones ∷ ones ∷ ones ∷ ones ∷ [] ≡ a ∷ b ∷ c ∷ d ∷ []
ones_are a b c d e =
    let e₀ = (and-eq-true_iff (eqb a ones) (eqb b ones && (eqb c ones && (eqb d ones && true)))).0 e in
    let e₁ = (and-eq-true_iff (eqb b ones) (eqb c ones && (eqb d ones && true))).0 e₀.1 in
    let e₂ = (and-eq-true_iff (eqb c ones) (eqb d ones && true)).0 e₁.1 in
    let e₃ = (and-eq-true_iff (eqb d ones) true).0 e₂.1 in
    rw (eqb-true a ones e₀.0, eqb-true b ones e₁.0, eqb-true c ones e₂.0, eqb-true d ones e₃.0)

-- four words are the words of what they stand for
pub words_decoded : (ws : List ℕ) → length ws ≡ weight_words → words (decoded places ws) ≡ ws
unfolding words
words_decoded [] h = absurd (omega arith)
words_decoded (a ∷ []) h = absurd (omega arith)
words_decoded (a ∷ b ∷ []) h = absurd (omega arith)
words_decoded (a ∷ b ∷ c ∷ []) h = absurd (omega arith)
words_decoded (a ∷ b ∷ c ∷ d ∷ []) h = go (all_are ones (a ∷ b ∷ c ∷ d ∷ [])) refl
  where
    go : (t : Bool) → all_are ones (a ∷ b ∷ c ∷ d ∷ []) ≡ t → words (cond t none (route (a ∷ b ∷ c ∷ d ∷ []))) ≡ a ∷ b ∷ c ∷ d ∷ []
    go true e = ones_are a b c d e
    go false e = refl
words_decoded (a ∷ b ∷ c ∷ d ∷ e ∷ l) h = absurd (omega arith)

-- ---- a place of a buffer

pub cell_is : (s : List ℕ) (p : ℕ) → cell places s p ≡ decoded places (words_at s p)
unfolding cell
cell_is s p = refl

pub words_cell : (s : List ℕ) (p : ℕ) → p + weight_words ≤ length s → words (cell places s p) ≡ words_at s p
unfolding cell
words_cell s p h = words_decoded (words_at s p) (length-take-le weight_words (drop p s) (omega (arith, length-drop p s)))

-- a weight written at p
pub write_is : (s : List ℕ) (p : ℕ) (w : Weight) → p + weight_words ≤ length s → sets s p (words w) ≡ take p s ++ (words w ++ drop weight_words (drop p s))
write_is s p w h =
    let e : length (words w) ≡ weight_words = length_words w in
    sets-eq (words w) s p (omega arith) ∙ append_assoc (take p s) (words w) _ ∙ rw (e, drop-drop)

-- nothing written at p
pub keep_is : (s : List ℕ) (p : ℕ) (w : Weight) → p + weight_words ≤ length s → w ≡ cell places s p → s ≡ take p s ++ (words w ++ drop weight_words (drop p s))
keep_is s p w h e =
    sym (take-append-drop p s)
    ∙ ap (λ (l : List ℕ). take p s ++ l) (sym (take-append-drop weight_words (drop p s)) ∙ ap (λ (l : List ℕ). l ++ drop weight_words (drop p s)) (sym (ap words e ∙ words_cell s p h)))

-- the weight at a place, the words before which have changed
pub cell_drop : (s s₀ : List ℕ) (p : ℕ) → drop p s ≡ drop p s₀ → cell places s p ≡ cell places s₀ p
unfolding cell
cell_drop s s₀ p e = ap (λ (l : List ℕ). decoded places (take weight_words l)) e

-- ---- rows and matrices

-- row i lies within the matrix, which is small
pub row_room : (n i : ℕ) (s : List ℕ) → Square n s → i < n → (i * (n * weight_words) + n * weight_words ≤ length s) × (length s ≤ 1024)
row_room n i s h hi = (omega (arith, block_room (n * weight_words) i n hi, h.long), omega (arith, square_small n h.few, h.long))

-- a row is the words of its entries
pub row_self : (n : ℕ) (s : List ℕ) → n * weight_words ≤ length s → row_words n (row_in places s) ≡ take (n * weight_words) s
row_self n s h = blocks_take weight_words (λ j. words (row_in places s j)) s n (λ j hj. words_cell s (j * weight_words) (omega arith))

pub row_whole : (n : ℕ) (s : List ℕ) → n * weight_words ≤ length s → s ≡ row_words n (row_in places s) ++ drop (n * weight_words) s
row_whole n s h = sym (take-append-drop (n * weight_words) s) ∙ ap (λ (l : List ℕ). l ++ drop (n * weight_words) s) (sym (row_self n s h))

-- a buffer is the words of its entries
pub matrix_self : (n : ℕ) (s : List ℕ) → Square n s → matrix_words n (matrix_in places n s) ≡ s
matrix_self n s h =
    blocks_take (n * weight_words) (λ i. row_words n (matrix_in places n s i)) s n row ∙ take_all (n * (n * weight_words)) s (omega (arith, h.long))
  where
    one : (i j : ℕ) → i < n → j < n → words (matrix_in places n s i j) ≡ words_at (drop (i * (n * weight_words)) s) (j * weight_words)
    one i j hi hj = rw drop-drop (words_cell s (entry_place n i j) (omega (arith, place_room n i j hi hj, h.long)))

    row : (i : ℕ) → i < n → row_words n (matrix_in places n s i) ≡ take (n * weight_words) (drop (i * (n * weight_words)) s)
    row i hi = blocks_take weight_words (λ j. words (matrix_in places n s i j)) (drop (i * (n * weight_words)) s) n (λ j hj. one i j hi hj)

pub row_cong : (n : ℕ) (f g : ℕ → Weight) → ((j : ℕ) → j < n → f j ≡ g j) → row_words n f ≡ row_words n g
row_cong n f g e = blocks_cong _ _ n (λ j hj. ap words (e j hj))

pub matrix_cong : (n : ℕ) (R S : Matrix) → ((i j : ℕ) → i < n → j < n → R i j ≡ S i j) → matrix_words n R ≡ matrix_words n S
matrix_cong n R S e = blocks_cong _ _ n (λ i hi. row_cong n (R i) (S i) (λ j hj. e i j hi hj))

-- the words of entry (i, j)
pub matrix_four : (n : ℕ) (R : Matrix) (i j : ℕ) → i < n → j < n → words_at (matrix_words n R) (entry_place n i j) ≡ words (R i j)
matrix_four n R i j hi hj =
    let d : List ℕ = drop (i * (n * weight_words)) (matrix_words n R) in
    let e : d ≡ row_words n (R i) ++ drop (n * weight_words) d = sym (take-append-drop (n * weight_words) d) ∙ ap (λ (l : List ℕ). l ++ drop (n * weight_words) d) (blocks_at (n * weight_words) (λ i. row_words n (R i)) (λ i. length_row n (R i)) n i hi) in
    ap (take weight_words) (sym (drop-drop (j * weight_words) (i * (n * weight_words)) (matrix_words n R)) ∙ ap (drop (j * weight_words)) e)
    ∙ front_at weight_words (λ j. words (R i j)) (λ j. length_words (R i j)) n j (drop (n * weight_words) d) hj

-- entry j of a row whose weight there is read back
pub row_reads : (n : ℕ) (g : ℕ → Weight) (z : List ℕ) (j : ℕ) → j < n → decoded places (words (g j)) ≡ g j → row_in places (row_words n g ++ z) j ≡ g j
unfolding cell
row_reads n g z j h e = rw (front_at weight_words (λ j. words (g j)) (λ j. length_words (g j)) n j z h) e

-- entry (i, j) of the words of a matrix whose weight there is read back
pub matrix_reads : (n : ℕ) (R : Matrix) (i j : ℕ) → i < n → j < n → decoded places (words (R i j)) ≡ R i j → matrix_in places n (matrix_words n R) i j ≡ R i j
unfolding cell
matrix_reads n R i j hi hj e = ap (decoded places) (matrix_four n R i j hi hj) ∙ e

-- what is read from a buffer is read back
pub cell_back : (s : List ℕ) (p : ℕ) → p + weight_words ≤ length s → decoded places (words (cell places s p)) ≡ cell places s p
cell_back s p h = ap (decoded places) (words_cell s p h) ∙ sym (cell_is s p)

-- row i replaced
pub put_row : (n : ℕ) (R : Matrix) (i : ℕ) (g : ℕ → Weight) → i < n
    → take (i * (n * weight_words)) (matrix_words n R) ++ (row_words n g ++ drop (n * weight_words) (drop (i * (n * weight_words)) (matrix_words n R)))
    ≡ matrix_words n (λ u j. cond (eqb u i) (g j) (R u j))
put_row n R i g h =
    blocks_put (n * weight_words) (λ u. row_words n (R u)) (λ u. length_row n (R u)) (row_words n g) n i h ∙ blocks_cong _ _ n (λ u _. row (eqb u i) (R u))
  where
    row : (t : Bool) (u : ℕ → Weight) → cond t (row_words n g) (row_words n u) ≡ row_words n (λ j. cond t (g j) (u j))
    row true u = refl
    row false u = refl

-- ---- a copy to the front

pub copy_more : (s d : List ℕ) (t : ℕ) → t < length s → t < length d → set (take t s ++ drop t d) t (get_or s t 0) ≡ take (t + 1) s ++ drop (t + 1) d
copy_more s d t hs hd =
    rw (drop-cons d t 0 hd, set_at (take t s) _ _ _ t (length-take-le t s (omega arith)), add-one, take-suc s t 0 hs, append_snoc)

pub copy_all : (s d l : List ℕ) (t : ℕ) → t ≡ length d → l ≡ take t s ++ drop t d → l ≡ take (length d) s
copy_all s d l t e h = h ∙ rw (e, drop-length, append-nil)

-- ---- the better of what stands at a place and of z

-- z is written where it is better
pub relax_put : (cs : List Component) (s : List ℕ) (p : ℕ) (z old j : Weight) → p + weight_words ≤ length s → z ≡ j → old ≡ decoded places (words_at s p)
    → better cs z old ≡ true → sets s p (words z) ≡ take p s ++ (words (better_of cs (cell places s p) j) ++ drop weight_words (drop p s))
relax_put cs s p z old j h e f t =
    let q : better_of cs (cell places s p) j ≡ z = better_of_second cs (cell places s p) j (ap₂ (better cs) (sym e) (cell_is s p ∙ sym f) ∙ t) ∙ sym e in
    write_is s p z h ∙ ap (λ (w : Weight). take p s ++ (words w ++ drop weight_words (drop p s))) (sym q)

-- nothing is written where it is not
pub relax_keep : (cs : List Component) (s : List ℕ) (p : ℕ) (z old j : Weight) → p + weight_words ≤ length s → z ≡ j → old ≡ decoded places (words_at s p)
    → better cs z old ≡ false → s ≡ take p s ++ (words (better_of cs (cell places s p) j) ++ drop weight_words (drop p s))
relax_keep cs s p z old j h e f t = keep_is s p (better_of cs (cell places s p) j) h (better_of_first cs (cell places s p) j (ap₂ (better cs) (sym e) (cell_is s p ∙ sym f) ∙ t))

-- nothing is written where the join loses by its first value
pub relax_lose : (cs : List Component) (s : List ℕ) (p : ℕ) (old x y : Weight) → p + weight_words ≤ length s → old ≡ decoded places (words_at s p)
    → loses cs old x y ≡ true → s ≡ take p s ++ (words (better_of cs (cell places s p) (join cs x y)) ++ drop weight_words (drop p s))
relax_lose cs s p old x y h f t =
    let e : old ≡ cell places s p = f ∙ sym (cell_is s p) in
    keep_is s p (better_of cs (cell places s p) (join cs x y)) h (sym (loses_stays cs (cell places s p) x y (subst (λ (w : Weight). loses cs w x y ≡ true) e t)))

-- what is written, where what was read is as it was
pub fold_one : (cs : List Component) (x y y' : Weight) (s s₀ : List ℕ) (p : ℕ) → cell places s p ≡ cell places s₀ p → y ≡ y'
    → take p s ++ (words (better_of cs (cell places s p) (join cs x y)) ++ drop weight_words (drop p s))
    ≡ take p s ++ (words (better_of cs (cell places s₀ p) (join cs x y')) ++ drop weight_words (drop p s))
fold_one cs x y y' s s₀ p e f = ap₂ (λ (u v : Weight). take p s ++ (words (better_of cs u (join cs x v)) ++ drop weight_words (drop p s))) e f
