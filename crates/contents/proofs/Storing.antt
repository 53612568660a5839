-- Laws of the second pass: storing the records of a list one after the other makes the table.
use mathlib.Core.Path.{◌≡◌, refl, sym, ap, ◌∙◌}
use mathlib.Core.List.{List, [], ◌∷◌, ◌++◌}
use mathlib.Core.Bool.{Bool, true, false, cond}
use Prim.Native.Nat.{ℕ, zero, suc, ◌+◌, ◌*◌, ◌≤◌, ◌<◌}
use native.Mathlib.Numerals.{add-one}
use native.Mathlib.Omega.{arith}
use lib.ListN.{length, drop, set, replicate, length-replicate, length-append}
use lib.Seq.{sets, length-sets, drop_at}
use Rattle.weights.specs.Sizes.{weight_words, ones}
use Rattle.weights.specs.Weights.{Weight}
use Rattle.weights.specs.Words.{words}
use Rattle.fields.specs.declared.Head.{Head}
use Rattle.records.specs.declared.Listing.{Listing}
use Rattle.records.specs.declared.Listing.TheVariants.{Arcs, Attachments}
use Rattle.records.specs.Records.{ends_at, length_of}
use Rattle.contents.specs.Contents.{grid, words_each, columns, size_of, record_words, record_weight, outside_at, with_outside, unlisted, row_of_ends, column_of_ends, is_at, listed_words, listed_table}
use Rattle.records.specs.Parts.{InRange}
use Rattle.contents.specs.Parts.{place_of}
use Rattle.contents.proofs.Values.{sets_last}
use Rattle.matrices.proofs.Blocks.{block_room}
use Rattle.matrices.proofs.Entries.{length_words}
use Rattle.contents.proofs.Tables.{grid_put, grid_same}

-- ---- a record in the table

-- a word stored after those of a weight
pub put_last : (w : Weight) (l : List ℕ) (n t : ℕ) → set (sets l n (words w)) (n + weight_words) t ≡ sets l n (words w ++ (t ∷ []))
put_last w l n t = ap (λ (z : ℕ). set (sets l n (words w)) (n + z) t) (sym (length_words w)) ∙ sets_last (words w) l n t

pub words_wide : (list : Listing) (ws : List ℕ) (t : ℕ) → length ws ≡ weight_words → length (with_outside list ws t) ≡ words_each list
words_wide Arcs ws t e = e
words_wide Attachments ws t e = length-append ws (t ∷ []) ∙ omega (arith, e)

record_wide : (s : List ℕ) (h : Head) (list : Listing) (at : ℕ) → length (record_words s h list at) ≡ words_each list
record_wide s h list at = words_wide list (words (record_weight s h at)) (outside_at s h at) (length_words (record_weight s h at))

pub unlisted_ones : (list : Listing) → unlisted list ≡ replicate (words_each list) ones
unfolding words
unlisted_ones Arcs = refl
unlisted_ones Attachments = refl

place_grid : (s : List ℕ) (h : Head) (list : Listing) (at : ℕ)
    → place_of h (ends_at s list at) ≡ row_of_ends (ends_at s list at) * (columns h list * words_each list) + column_of_ends (ends_at s list at) * words_each list
place_grid s h Arcs at = refl
place_grid s h Attachments at = refl

inside : (s : List ℕ) (h : Head) (list : Listing) (at : ℕ) → InRange h (ends_at s list at)
    → (row_of_ends (ends_at s list at) < h.n) × (column_of_ends (ends_at s list at) < columns h list)
inside s h Arcs at r = r
inside s h Attachments at r = r

pub room : (s : List ℕ) (h : Head) (list : Listing) (at : ℕ) → InRange h (ends_at s list at)
    → place_of h (ends_at s list at) + words_each list ≤ size_of h list
unfolding size_of
room s h list at r =
    let i = inside s h list at r in
    omega (
      arith,
      place_grid s h list at,
      block_room (columns h list * words_each list) (row_of_ends (ends_at s list at)) h.n i.0,
      block_room (words_each list) (column_of_ends (ends_at s list at)) (columns h list) i.1,
    )

pub listed_wide : (s : List ℕ) (h : Head) (list : Listing) (first count i j : ℕ) → length (listed_words s h list first count i j) ≡ words_each list
unfolding listed_words
listed_wide s h list first zero i j = ap length (unlisted_ones list) ∙ length-replicate (words_each list) ones
listed_wide s h list first (suc count) i j =
    go (is_at (ends_at s list (first + count * length_of h list)) i j) (listed_wide s h list first count i j)
  where
    go : (b : Bool) → length (listed_words s h list first count i j) ≡ words_each list
        → length (cond b (record_words s h list (first + count * length_of h list)) (listed_words s h list first count i j)) ≡ words_each list
    go true e = record_wide s h list (first + count * length_of h list)
    go false e = e

-- ---- the table after some records

pub record Stored (s : List ℕ) (h : Head) (list : Listing) (first count : ℕ) (r₀ r : List ℕ) : Type 0 where
  pub holds : r ≡ listed_table s h list first count ++ drop (size_of h list) r₀
  pub long : length r ≡ length r₀

pub table_none : (s : List ℕ) (h : Head) (list : Listing) (first : ℕ) → replicate (size_of h list) ones ≡ listed_table s h list first 0
unfolding size_of listed_table listed_words
table_none s h list first =
    sym (grid_same (words_each list) ones h.n (columns h list))
    ∙ ap (λ (ws : List ℕ). grid h.n (columns h list) (λ _ _. ws)) (sym (unlisted_ones list))

pub table_more : (s : List ℕ) (h : Head) (list : Listing) (first count : ℕ) (rest : List ℕ)
    → InRange h (ends_at s list (first + count * length_of h list))
    → sets (listed_table s h list first count ++ rest) (place_of h (ends_at s list (first + count * length_of h list))) (record_words s h list (first + count * length_of h list))
    ≡ listed_table s h list first (suc count) ++ rest
unfolding listed_table listed_words
table_more s h list first count rest r =
    let at : ℕ = first + count * length_of h list in
    let i = inside s h list at r in
    ap (λ (z : ℕ). sets (grid h.n (columns h list) (listed_words s h list first count) ++ rest) z (record_words s h list at)) (place_grid s h list at)
    ∙ grid_put (words_each list) (listed_words s h list first count) (listed_wide s h list first count) h.n (columns h list)
    (row_of_ends (ends_at s list at)) (column_of_ends (ends_at s list at)) (record_words s h list at) rest (record_wide s h list at) i.0 i.1

-- one more record stored
pub stored_more : (s : List ℕ) (h : Head) (list : Listing) (first count : ℕ) (r₀ r r' : List ℕ) (at : ℕ)
    → Stored s h list first count r₀ r → at ≡ first + count * length_of h list → InRange h (ends_at s list at)
    → r' ≡ sets r (place_of h (ends_at s list at)) (record_words s h list at)
    → Stored s h list first (count + 1) r₀ r'
stored_more s h list first count r₀ r r' at st e i q =
    let i' : InRange h (ends_at s list (first + count * length_of h list)) = rw e at i in
    record {
      holds =
          q
          ∙ ap (λ (z : ℕ). sets r (place_of h (ends_at s list z)) (record_words s h list z)) e
          ∙ ap (λ (l : List ℕ). sets l (place_of h (ends_at s list (first + count * length_of h list))) (record_words s h list (first + count * length_of h list))) st.holds
          ∙ table_more s h list first count (drop (size_of h list) r₀) i'
          ∙ ap (λ (z : ℕ). listed_table s h list first z ++ drop (size_of h list) r₀) (sym (add-one count));
      long = ap length q ∙ length-sets r _ (record_words s h list at) ∙ st.long;
    }

-- over a cleared buffer nothing is stored yet; what lies behind the table stays
module _ (s : List ℕ) (h : Head) (list : Listing) (first : ℕ) (r₀ rest : List ℕ) (clean : r₀ ≡ replicate (size_of h list) ones ++ rest) where
  behind : drop (size_of h list) r₀ ≡ rest
  behind = ap (drop (size_of h list)) clean ∙ drop_at (replicate (size_of h list) ones) rest (size_of h list) (length-replicate (size_of h list) ones)

  pub stored_none : Stored s h list first 0 r₀ r₀
  stored_none = record {
    holds = clean ∙ ap (λ (l : List ℕ). l ++ rest) (table_none s h list first) ∙ ap (λ (l : List ℕ). listed_table s h list first 0 ++ l) (sym behind);
    long = refl;
  }
