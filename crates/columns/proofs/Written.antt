-- A column written entry by entry.
use Prim.Native.Nat.{ℕ, ◌+◌, ◌*◌, ◌≤◌, ◌<◌}
use mathlib.Core.Path.{◌≡◌, refl, sym, ap, ◌∙◌}
use mathlib.Core.Bool.{Bool, true, false, cond, ◌&&◌}
use mathlib.Core.List.{List, ◌++◌, append_assoc}
use mathlib.Core.Logic.{⊎_elim}
use native.Mathlib.Decide.{dec_lt}
use native.Mathlib.Nat.{eq-or-lt_of_le}
use native.Mathlib.Omega.{arith}
use borrow.Author.Tests.{ne_eqb, eq-eqb, lt-ltb, le-ltb}
use lib.Dec.{eqb, ltb}
use lib.ListN.{length, take, drop, length-drop, take-append-drop}
use lib.Seq.{take-add, drop-drop, take_at, drop_at, take-append-le, drop-append-le, length-take-le}
use Rattle.weights.specs.Sizes.{weight_words}
use Rattle.weights.specs.Weights.{Weight}
use Rattle.weights.specs.Words.{words}
use Rattle.matrices.specs.Buffers.{row_words, matrix_words, entry_place}
use Rattle.matrices.specs.Steps.{Matrix}
use Rattle.columns.specs.Columns.{set_column}
use Rattle.matrices.proofs.Blocks.{blocks_put, blocks_cong, blocks_at, block_room}
use Rattle.matrices.proofs.Entries.{length_words, length_row, length_matrix, matrix_cong, put_row}

-- a part within a block of a list: l is what lies before the block, b the block, z the rest
put_inside : (l b z x : List ℕ) (p q m : ℕ) → length l ≡ p → q + m ≤ length b
    → take (p + q) (l ++ (b ++ z)) ++ (x ++ drop m (drop (p + q) (l ++ (b ++ z)))) ≡ l ++ ((take q b ++ (x ++ drop m (drop q b))) ++ z)
put_inside l b z x p q m e h =
    rw (
      take-add p q (l ++ (b ++ z)),
      ← drop-drop q p (l ++ (b ++ z)),
      take_at l (b ++ z) p e,
      drop_at l (b ++ z) p e,
      take-append-le q b z (omega arith),
      drop-append-le q b z (omega arith),
      drop-append-le m (drop q b) z (omega (arith, length-drop q b)),
    )
    (simp append_assoc)

-- entry (i, j) replaced
pub put_entry : (n : ℕ) (R : Matrix) (i j : ℕ) (w : Weight) → i < n → j < n
    → take (entry_place n i j) (matrix_words n R) ++ (words w ++ drop weight_words (drop (entry_place n i j) (matrix_words n R)))
    ≡ matrix_words n (λ u v. cond (eqb u i) (cond (eqb v j) w (R i v)) (R u v))
put_entry n R i j w hi hj =
    ap (λ (u : List ℕ). take (entry_place n i j) u ++ (words w ++ drop weight_words (drop (entry_place n i j) u))) split
    ∙ put_inside before (row_words n (R i)) after (words w) (i * (n * weight_words)) (j * weight_words) weight_words
    (length-take-le (i * (n * weight_words)) (matrix_words n R) (omega (arith, block_room (n * weight_words) i n hi, length_matrix n R))) (omega (arith, length_row n (R i)))
    ∙ ap (λ (u : List ℕ). before ++ (u ++ after))
    (blocks_put weight_words (λ v. words (R i v)) (λ v. length_words (R i v)) (words w) n j hj ∙ blocks_cong _ _ n (λ v _. one (eqb v j) (R i v)))
    ∙ put_row n R i (λ v. cond (eqb v j) w (R i v)) hi
  where
    before : List ℕ
    before = take (i * (n * weight_words)) (matrix_words n R)

    rest : List ℕ
    rest = drop (i * (n * weight_words)) (matrix_words n R)

    after : List ℕ
    after = drop (n * weight_words) rest

    split : matrix_words n R ≡ before ++ (row_words n (R i) ++ after)
    split =
        sym (take-append-drop (i * (n * weight_words)) (matrix_words n R))
        ∙ ap (λ (l : List ℕ). before ++ l) (sym (take-append-drop (n * weight_words) rest)
        ∙ ap (λ (l : List ℕ). l ++ after) (blocks_at (n * weight_words) (λ i. row_words n (R i)) (λ i. length_row n (R i)) n i hi))

    one : (t : Bool) (u : Weight) → cond t (words w) (words u) ≡ words (cond t w u)
    one true u = refl
    one false u = refl

-- column j replaced above row i
abbrev pub column_to : ℕ → ℕ → (ℕ → Weight) → Matrix → Matrix
column_to i j g R u v = cond (ltb u i && eqb v j) (g u) (R u v)

module _ (n j : ℕ) (g : ℕ → Weight) (R : Matrix) where
  pub column_none : matrix_words n R ≡ matrix_words n (column_to 0 j g R)
  column_none = matrix_cong n R (column_to 0 j g R) (λ u v hu hv. rw (le-ltb u 0 (omega arith)))

  pub column_all : (i : ℕ) → i ≡ n → matrix_words n (column_to i j g R) ≡ matrix_words n (set_column j g R)
  column_all i e = matrix_cong n (column_to i j g R) (set_column j g R) (λ u v hu hv. rw (lt-ltb u i (omega arith)))

  next : (i u v : ℕ) → cond (eqb u i) (cond (eqb v j) (g i) (column_to i j g R i v)) (column_to i j g R u v) ≡ column_to (i + 1) j g R u v
  next i u v = elim (dec_lt u i) [ yes h ↦ above h | no h ↦ ⊎_elim here below (eq-or-lt_of_le {n = i} {m = u} (omega arith)) ]
    where
      above : u < i → cond (eqb u i) (cond (eqb v j) (g i) (column_to i j g R i v)) (column_to i j g R u v) ≡ column_to (i + 1) j g R u v
      above h = rw (ne_eqb u i (λ e. omega arith), lt-ltb u i h, lt-ltb u (i + 1) (omega arith))

      here : i ≡ u → cond (eqb u i) (cond (eqb v j) (g i) (column_to i j g R i v)) (column_to i j g R u v) ≡ column_to (i + 1) j g R u v
      here e = rw (← e, eq-eqb i i refl, le-ltb i i (omega arith), lt-ltb i (i + 1) (omega arith))

      below : i < u → cond (eqb u i) (cond (eqb v j) (g i) (column_to i j g R i v)) (column_to i j g R u v) ≡ column_to (i + 1) j g R u v
      below h = rw (ne_eqb u i (λ e. omega arith), le-ltb u i (omega arith), le-ltb u (i + 1) (omega arith))

  -- one more entry
  pub column_more : (i : ℕ) (r r' : List ℕ) (w : Weight) → i < n → j < n → r ≡ matrix_words n (column_to i j g R) → w ≡ g i
      → r' ≡ take (entry_place n i j) r ++ (words w ++ drop weight_words (drop (entry_place n i j) r)) → r' ≡ matrix_words n (column_to (i + 1) j g R)
  column_more i r r' w hi hj e q h =
      h
      ∙ ap (λ (l : List ℕ). take (entry_place n i j) l ++ (words w ++ drop weight_words (drop (entry_place n i j) l))) e
      ∙ ap (λ (v : Weight). take (entry_place n i j) (matrix_words n (column_to i j g R)) ++ (words v ++ drop weight_words (drop (entry_place n i j) (matrix_words n (column_to i j g R))))) q
      ∙ put_entry n (column_to i j g R) i j (g i) hi hj
      ∙ matrix_cong n _ _ (λ u v hu hv. next i u v)
