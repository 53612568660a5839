-- Where an entry of a table stands in a buffer.
use Prim.Native.Nat.{ℕ, zero, suc, ◌+◌, ◌*◌, ◌<◌}
use mathlib.Core.Path.{◌≡◌, sym, ap, ◌∙◌}
use mathlib.Core.List.{List, ◌++◌, append_assoc}
use mathlib.Core.Logic.{⊎_elim}
use native.Mathlib.Nat.{eq-or-lt_of_le, le_of_suc-le-suc}
use native.Mathlib.Omega.{arith}
use lib.ListN.{length, take, drop}
use lib.Seq.{drop-drop, drop_at, take_at}
use Rattle.matrices.specs.Buffers.{blocks}
use Rattle.contents.specs.Contents.{grid}
use Rattle.matrices.proofs.Blocks.{length_blocks}

-- from an offset on stands x
record From (l : List ℕ) (at : ℕ) (x : List ℕ) : Type 0 where
  pub rest : List ℕ
  pub stands : drop at l ≡ x ++ rest

module _ (k : ℕ) (f : ℕ → List ℕ) (sized : (i : ℕ) → length (f i) ≡ k) where
  block_from : (n i : ℕ) (z : List ℕ) → i < n → From (blocks n f ++ z) (i * k) (f i)
  unfolding blocks
  block_from zero i z h = absurd (omega arith)
  block_from (suc n) i z h = ⊎_elim last (λ l. earlier (block_from n i (f n ++ z) l)) (eq-or-lt_of_le (le_of_suc-le-suc h))
    where
      last : i ≡ n → From ((blocks n f ++ f n) ++ z) (i * k) (f i)
      last e = record {
        rest = z;
        stands =
            ap (drop (i * k)) (append_assoc (blocks n f) (f n) z)
            ∙ ap (λ (q : ℕ). drop (q * k) (blocks n f ++ (f n ++ z))) e
            ∙ drop_at (blocks n f) (f n ++ z) (n * k) (length_blocks k f sized n)
            ∙ ap (λ (q : ℕ). f q ++ z) (sym e);
      }

      earlier : From (blocks n f ++ (f n ++ z)) (i * k) (f i) → From ((blocks n f ++ f n) ++ z) (i * k) (f i)
      earlier r = record { rest = r.rest; stands = ap (drop (i * k)) (append_assoc (blocks n f) (f n) z) ∙ r.stands }

-- the entry at (i, j) of a table, whatever lies after the table
pub entry_at_lem : (k : ℕ) (c : ℕ → ℕ → List ℕ) → ((i j : ℕ) → length (c i j) ≡ k) → (n m i j : ℕ) (z : List ℕ) → i < n → j < m
    → take k (drop (i * (m * k) + j * k) (grid n m c ++ z)) ≡ c i j
entry_at_lem k c sized n m i j z hi hj =
    let r = block_from (m * k) (λ p. blocks m (c p)) (λ p. length_blocks k (c p) (sized p) m) n i z hi in
    let e = block_from k (c i) (sized i) m j r.rest hj in
    ap (take k) (sym (drop-drop (j * k) (i * (m * k)) (grid n m c ++ z)) ∙ ap (drop (j * k)) r.stands ∙ e.stands)
    ∙ take_at (c i j) e.rest k (sized i j)
