-- Laws of tables in buffers: a cell stored over a table, a cleared table.
use mathlib.Core.Path.{◌≡◌, refl, sym, ap, ◌∙◌}
use mathlib.Core.List.{List, [], ◌∷◌, ◌++◌, append_assoc, append-nil}
use mathlib.Core.Logic.{⊎_elim}
use mathlib.Core.Bool.{Bool, true, false, cond, ◌&&◌}
use Prim.Native.Nat.{ℕ, zero, suc, ◌+◌, ◌*◌, ◌≤◌, ◌<◌}
use native.Mathlib.Nat.{zero-mul, suc-mul, eq-or-lt_of_le, le_of_suc-le-suc, mul-le-mul, add-zero, add-suc, suc-add, zero-add}
use native.Mathlib.Omega.{arith}
use borrow.Author.Tests.{eq-eqb, ne_eqb}
use lib.Dec.{eqb}
use lib.ListN.{length, set, replicate, length-set, replicate-append-replicate, drop_of_length-le}
use lib.Seq.{sets, sets-eq, set-append_left}
use Rattle.matrices.specs.Buffers.{blocks}
use Rattle.matrices.proofs.Blocks.{blocks_cong, length_blocks, block_room}
use Rattle.contents.specs.Contents.{grid}

-- ---- stores in a part of a list

set_append_right : (xs ys : List ℕ) (n a : ℕ) → set (xs ++ ys) (length xs + n) a ≡ xs ++ set ys n a
set_append_right [] ys n a = rw zero-add
set_append_right (x ∷ xs) ys n a = rw (suc-add, set_append_right xs ys n a)

sets_append_right : (vs xs ys : List ℕ) (n : ℕ) → sets (xs ++ ys) (length xs + n) vs ≡ xs ++ sets ys n vs
sets_append_right [] xs ys n = refl
sets_append_right (v ∷ vs) xs ys n = rw (set_append_right xs ys n v, ← add-suc) (sets_append_right vs xs (set ys n v) (suc n))

sets_append_left : (vs xs ys : List ℕ) (n : ℕ) → n + length vs ≤ length xs → sets (xs ++ ys) n vs ≡ sets xs n vs ++ ys
sets_append_left [] xs ys n h = refl
sets_append_left (v ∷ vs) xs ys n h =
    rw (set-append_left xs ys n v (omega arith)) (sets_append_left vs (set xs n v) ys (suc n) (rw length-set (omega arith)))

sets_whole : (vs l : List ℕ) → length vs ≡ length l → sets l 0 vs ≡ vs
sets_whole vs l e =
    sets-eq vs l 0 (omega arith)
    ∙ ap (λ (r : List ℕ). vs ++ r) (drop_of_length-le l {i = 0 + length vs} (omega arith))
    ∙ append-nil vs

-- ---- blocks

abbrev stored : (ℕ → List ℕ) → ℕ → ℕ → List ℕ → ℕ → List ℕ
stored f i o vs q = cond (eqb q i) (sets (f q) o vs) (f q)

-- a store within block i
module _ (k : ℕ) (f : ℕ → List ℕ) (sized : (i : ℕ) → length (f i) ≡ k) (i o : ℕ) (vs : List ℕ) (fits : o + length vs ≤ k) where
  pub blocks_sets : (n : ℕ) (rest : List ℕ) → i < n → sets (blocks n f ++ rest) (i * k + o) vs ≡ blocks n (stored f i o vs) ++ rest
  unfolding blocks
  blocks_sets zero rest h = absurd (omega arith)
  blocks_sets (suc n) rest h = ⊎_elim at_last (λ l. earlier l (blocks_sets n (f n ++ rest) l)) (eq-or-lt_of_le (le_of_suc-le-suc h))
    where
      at_last : i ≡ n → sets ((blocks n f ++ f n) ++ rest) (i * k + o) vs ≡ (blocks n (stored f i o vs) ++ stored f i o vs n) ++ rest
      at_last e =
          let same : blocks n (stored f i o vs) ≡ blocks n f = blocks_cong _ _ n (λ q l. rw (ne_eqb q i (λ z. omega arith))) in
          let own : stored f i o vs n ≡ sets (f n) o vs = rw (eq-eqb n i (sym e)) in
          let here : i * k ≡ length (blocks n f) = ap (λ (z : ℕ). z * k) e ∙ sym (length_blocks k f sized n) in
          ap (λ (l : List ℕ). sets l (i * k + o) vs) (append_assoc (blocks n f) (f n) rest)
          ∙ ap (λ (z : ℕ). sets (blocks n f ++ (f n ++ rest)) (z + o) vs) here
          ∙ sets_append_right vs (blocks n f) (f n ++ rest) o
          ∙ ap (λ (l : List ℕ). blocks n f ++ l) (sets_append_left vs (f n) rest o (omega (arith, sized n)))
          ∙ sym (append_assoc (blocks n f) (sets (f n) o vs) rest)
          ∙ ap (λ (l : List ℕ). (l ++ sets (f n) o vs) ++ rest) (sym same)
          ∙ ap (λ (l : List ℕ). (blocks n (stored f i o vs) ++ l) ++ rest) (sym own)

      earlier : i < n → sets (blocks n f ++ (f n ++ rest)) (i * k + o) vs ≡ blocks n (stored f i o vs) ++ (f n ++ rest)
          → sets ((blocks n f ++ f n) ++ rest) (i * k + o) vs ≡ (blocks n (stored f i o vs) ++ stored f i o vs n) ++ rest
      earlier l ih =
          let own : stored f i o vs n ≡ f n = rw (ne_eqb n i (λ z. omega arith)) in
          ap (λ (l : List ℕ). sets l (i * k + o) vs) (append_assoc (blocks n f) (f n) rest)
          ∙ ih
          ∙ sym (append_assoc (blocks n (stored f i o vs)) (f n) rest)
          ∙ ap (λ (l : List ℕ). (blocks n (stored f i o vs) ++ l) ++ rest) (sym own)

-- ---- tables

module _ (k : ℕ) (c : ℕ → ℕ → List ℕ) (sized : (i j : ℕ) → length (c i j) ≡ k) where
  pub length_grid : (n m : ℕ) → length (grid n m c) ≡ n * (m * k)
  length_grid n m = length_blocks (m * k) (λ i. blocks m (c i)) (λ i. length_blocks k (c i) (sized i) m) n

  -- the cell at (i, j) replaced
  pub grid_put : (n m i j : ℕ) (vs rest : List ℕ) → length vs ≡ k → i < n → j < m
      → sets (grid n m c ++ rest) (i * (m * k) + j * k) vs ≡ grid n m (λ p q. cond (eqb p i && eqb q j) vs (c p q)) ++ rest
  grid_put n m i j vs rest e hi hj =
      blocks_sets (m * k) (λ p. blocks m (c p)) (λ p. length_blocks k (c p) (sized p) m) i (j * k) vs (omega (arith, block_room k j m hj)) n rest hi
      ∙ ap (λ (l : List ℕ). l ++ rest) (blocks_cong _ _ n (λ p _. row p (eqb p i)))
    where
      cell : (p q : ℕ) (t : Bool) → cond t (sets (c p q) 0 vs) (c p q) ≡ cond t vs (c p q)
      cell p q true = sets_whole vs (c p q) (omega (arith, sized p q))
      cell p q false = refl

      row : (p : ℕ) (t : Bool) → cond t (sets (blocks m (c p)) (j * k) vs) (blocks m (c p)) ≡ blocks m (λ q. cond (t && eqb q j) vs (c p q))
      row p false = refl
      row p true =
          ap (λ (l : List ℕ). sets l (j * k) vs) (sym (append-nil (blocks m (c p))))
          ∙ ap (λ (z : ℕ). sets (blocks m (c p) ++ []) z vs) (sym (add-zero (j * k)))
          ∙ blocks_sets k (c p) (sized p) j 0 vs (omega arith) m [] hj
          ∙ append-nil (blocks m (stored (c p) j 0 vs))
          ∙ blocks_cong _ _ m (λ q _. cell p q (eqb q j))

-- ---- a cleared table

pub blocks_same : (k t : ℕ) (n : ℕ) → blocks n (λ _. replicate k t) ≡ replicate (n * k) t
unfolding blocks
blocks_same k t zero = rw zero-mul
blocks_same k t (suc n) = rw (blocks_same k t n, replicate-append-replicate, suc-mul)

pub grid_same : (k t n m : ℕ) → grid n m (λ _ _. replicate k t) ≡ replicate (n * (m * k)) t
grid_same k t n m = blocks_cong _ _ n (λ _ _. blocks_same k t m) ∙ blocks_same (m * k) t n

pub product : (x y a b : ℕ) → x ≤ a → y ≤ b → x * y ≤ a * b
product x y a b h g = mul-le-mul h g
