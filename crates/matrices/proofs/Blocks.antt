-- Words one block after another: what is where, and what a block that is written leaves.
use mathlib.Core.Path.{◌≡◌, refl, sym, ap, ◌∙◌}
use mathlib.Core.List.{List, [], ◌++◌, append_assoc, append-nil}
use mathlib.Core.Logic.{⊎_elim}
use mathlib.Core.Bool.{Bool, true, false, cond}
use Prim.Native.Nat.{ℕ, zero, suc, ◌+◌, ◌*◌, ◌-◌, ◌≤◌, ◌<◌}
use native.Mathlib.Nat.{zero-mul, suc-mul, eq-or-lt_of_le, le_of_suc-le-suc, mul-le-mul_right, mul-le-mul}
use native.Mathlib.Numerals.{add-one}
use native.Mathlib.Omega.{arith}
use borrow.Author.Tests.{eqb-true, ne_eqb, eq-eqb}
use lib.Dec.{eqb}
use lib.ListN.{length, take, drop, length-append, length-take, length-drop, drop_of_length-le}
use lib.Seq.{length-take-le, take_at, drop_at, take-append-le, drop-append-le, drop-drop, take_all, take-add}
use borrow.Rule.Slice.PartMut.{mid_of, put_mid}
use Rattle.weights.specs.Sizes.{weight_words}
use Rattle.matrices.specs.Buffers.{blocks}

pub blocks_suc : (f : ℕ → List ℕ) (n : ℕ) → blocks (n + 1) f ≡ blocks n f ++ f n
unfolding blocks
blocks_suc f n = rw add-one

-- blocks that agree below n are the same words
pub blocks_cong : (f g : ℕ → List ℕ) (n : ℕ) → ((i : ℕ) → i < n → f i ≡ g i) → blocks n f ≡ blocks n g
unfolding blocks
blocks_cong f g zero e = refl
blocks_cong f g (suc n) e =
    let hd : blocks n f ≡ blocks n g = blocks_cong f g n (λ i h. e i (omega arith)) in
    let tl : f n ≡ g n = e n (omega arith) in
    cc

-- the first i blocks have been written over l₀, which is now l
pub record Filled (k : ℕ) (f : ℕ → List ℕ) (l₀ : List ℕ) (i : ℕ) (l : List ℕ) : Type 0 where
  pub holds : l ≡ blocks i f ++ drop (i * k) l₀
  pub long : length l ≡ length l₀

pub filled_none : (k : ℕ) (f : ℕ → List ℕ) (l : List ℕ) → Filled k f l 0 l
unfolding blocks
filled_none k f l = record { holds = rw zero-mul; long = refl }

pub filled_is : (k : ℕ) (f : ℕ → List ℕ) (l₀ : List ℕ) (i n : ℕ) (l : List ℕ) → Filled k f l₀ i l → i ≡ n → l ≡ blocks n f ++ drop (n * k) l₀
filled_is k f l₀ i n l h e = rw (← e) h.holds

-- all the blocks, and nothing after them
pub filled_all : (k : ℕ) (f : ℕ → List ℕ) (l₀ : List ℕ) (i n : ℕ) (l : List ℕ) → Filled k f l₀ i l → i ≡ n → length l₀ ≤ n * k → l ≡ blocks n f
filled_all k f l₀ i n l h e s = h.holds ∙ rw (e, drop_of_length-le l₀ {i = n * k} s, append-nil)

-- what is lent from a on, and what comes back
pub lent_part : (a : ℕ) (l : List ℕ) → mid_of a (length l - a) l ≡ drop a l
lent_part a l = take_all (length l - a) (drop a l) (omega (arith, length-drop a l))

pub lent_back : (a : ℕ) (l ys : List ℕ) → put_mid a (length l - a) l ys ≡ take a l ++ ys
lent_back a l ys =
    let e : drop (length l - a) (drop a l) ≡ [] = drop_of_length-le (drop a l) {i = length l - a} (omega (arith, length-drop a l)) in
    rw (e, append-nil)

-- block i lies within n blocks
pub block_room : (k i n : ℕ) → i < n → i * k + k ≤ n * k
block_room k i n h = omega (arith, suc-mul i k, mul-le-mul_right k h)

-- the entry (i, j) lies within the matrix, which is small
pub place_room : (n i j : ℕ) → i < n → j < n → i * (n * weight_words) + j * weight_words + weight_words ≤ n * (n * weight_words)
place_room n i j hi hj = omega (arith, block_room (n * weight_words) i n hi)

pub square_small : (n : ℕ) → n ≤ 16 → n * (n * weight_words) ≤ 1024
square_small n h = mul-le-mul h (mul-le-mul_right weight_words h)

module _ (k : ℕ) (f : ℕ → List ℕ) (sized : (i : ℕ) → length (f i) ≡ k) where
  pub length_blocks : (n : ℕ) → length (blocks n f) ≡ n * k
  unfolding blocks
  length_blocks zero = sym (zero-mul k)
  length_blocks (suc n) = length-append (blocks n f) (f n) ∙ omega (arith, length_blocks n, sized n, suc-mul n k)

  -- one more block written over the front of what is left
  fill_more : (i : ℕ) (r₀ l : List ℕ) → l ≡ blocks i f ++ drop (i * k) r₀
      → take (i * k) l ++ (f i ++ drop k (drop (i * k) l)) ≡ blocks (i + 1) f ++ drop ((i + 1) * k) r₀
  fill_more i r₀ l e =
      let e₁ : take (i * k) l ≡ blocks i f = ap (take (i * k)) e ∙ take_at (blocks i f) (drop (i * k) r₀) (i * k) (length_blocks i) in
      let e₂ : drop (i * k) l ≡ drop (i * k) r₀ = ap (drop (i * k)) e ∙ drop_at (blocks i f) (drop (i * k) r₀) (i * k) (length_blocks i) in
      let e₃ : i * k + k ≡ (i + 1) * k = omega (arith, suc-mul i k, ap (λ (m : ℕ). m * k) (add-one i)) in
      rw (e₁, e₂, drop-drop, e₃, blocks_suc, append_assoc)

  -- what is left to be written is as it was
  pub filled_rest : (l₀ : List ℕ) (i : ℕ) (l : List ℕ) → Filled k f l₀ i l → drop (i * k) l ≡ drop (i * k) l₀
  filled_rest l₀ i l h = ap (drop (i * k)) h.holds ∙ drop_at (blocks i f) (drop (i * k) l₀) (i * k) (length_blocks i)

  -- block i is written at its place in the whole
  pub filled_put : (l₀ : List ℕ) (i : ℕ) (l l' : List ℕ) → Filled k f l₀ i l → i * k + k ≤ length l
      → l' ≡ take (i * k) l ++ (f i ++ drop k (drop (i * k) l)) → Filled k f l₀ (i + 1) l'
  filled_put l₀ i l l' h room e = record {
    holds = e ∙ fill_more i l₀ l h.holds;
    long = ap length e
        ∙ rw (length-append, length-append) (omega (arith, length-take (i * k) l, sized i, length-drop k (drop (i * k) l), length-drop (i * k) l, h.long));
  }

  -- block i is written at the front of what is lent from its place on
  pub filled_lent : (l₀ : List ℕ) (i : ℕ) (l ys : List ℕ) → Filled k f l₀ i l → i * k + k ≤ length l
      → ys ≡ f i ++ drop k (mid_of (i * k) (length l - i * k) l) → Filled k f l₀ (i + 1) (put_mid (i * k) (length l - i * k) l ys)
  filled_lent l₀ i l ys h room e = filled_put l₀ i l _ h room (lent_back (i * k) l ys ∙ ap (λ (z : List ℕ). take (i * k) l ++ z) (e ∙ rw lent_part))

  -- block i replaced
  pub blocks_put : (x : List ℕ) (n i : ℕ) → i < n
      → take (i * k) (blocks n f) ++ (x ++ drop k (drop (i * k) (blocks n f))) ≡ blocks n (λ p. cond (eqb p i) x (f p))
  unfolding blocks
  blocks_put x zero i h = absurd (omega arith)
  blocks_put x (suc n) i h = ⊎_elim at_last (λ l. earlier l (blocks_put x n i l)) (eq-or-lt_of_le (le_of_suc-le-suc h))
    where
      g : ℕ → ℕ → List ℕ
      g i p = cond (eqb p i) x (f p)

      len : length (blocks n f) ≡ n * k
      len = length_blocks n

      at_last : i ≡ n → take (i * k) (blocks n f ++ f n) ++ (x ++ drop k (drop (i * k) (blocks n f ++ f n))) ≡ blocks n (g i) ++ g i n
      at_last e =
          let same : blocks n (g n) ≡ blocks n f = blocks_cong (g n) f n (λ p hp. rw (ne_eqb p n (λ q. omega arith))) in
          rw (e, take_at (blocks n f) (f n) (n * k) len, drop_at (blocks n f) (f n) (n * k) len, drop_of_length-le (f n) {i = k} (omega (arith, sized n)), append-nil, same, eq-eqb n n refl)

      earlier : i < n → take (i * k) (blocks n f) ++ (x ++ drop k (drop (i * k) (blocks n f))) ≡ blocks n (g i)
          → take (i * k) (blocks n f ++ f n) ++ (x ++ drop k (drop (i * k) (blocks n f ++ f n))) ≡ blocks n (g i) ++ g i n
      earlier l ih =
          let room : i * k + k ≤ length (blocks n f) = omega (arith, block_room k i n l, len) in
          rw (
            take-append-le (i * k) (blocks n f) (f n) (omega arith),
            drop-append-le (i * k) (blocks n f) (f n) (omega arith),
            drop-append-le k (drop (i * k) (blocks n f)) (f n) (omega (arith, length-drop (i * k) (blocks n f))),
            ← ih,
            ne_eqb n i (λ q. omega arith),
          )
          (simp append_assoc)

  -- block i, with what lies before and after it
  blocks_split : (n i : ℕ) → i < n → take (i * k) (blocks n f) ++ (f i ++ drop k (drop (i * k) (blocks n f))) ≡ blocks n f
  blocks_split n i h = blocks_put (f i) n i h ∙ blocks_cong _ f n (λ p _. same p (eqb p i) (eqb-true p i))
    where
      same : (p : ℕ) (t : Bool) → (t ≡ true → p ≡ i) → cond t (f i) (f p) ≡ f p
      same p true e = ap f (sym (e refl))
      same p false e = refl

  -- block i by itself
  pub blocks_at : (n i : ℕ) → i < n → take k (drop (i * k) (blocks n f)) ≡ f i
  blocks_at n i h =
      ap (λ (l : List ℕ). take k (drop (i * k) l)) (sym (blocks_split n i h))
      ∙ ap (take k) (drop_at (take (i * k) (blocks n f)) _ (i * k) (length-take-le (i * k) (blocks n f) (omega (arith, block_room k i n h, length_blocks n))))
      ∙ take_at (f i) _ k (sized i)

  -- the same, with more after the blocks
  pub front_at : (n i : ℕ) (z : List ℕ) → i < n → take k (drop (i * k) (blocks n f ++ z)) ≡ f i
  front_at n i z h =
      let room : i * k + k ≤ length (blocks n f) = omega (arith, block_room k i n h, length_blocks n) in
      rw (drop-append-le (i * k) (blocks n f) z (omega arith), take-append-le k (drop (i * k) (blocks n f)) z (omega (arith, length-drop (i * k) (blocks n f))))
      (blocks_at n i h)

-- a list is its parts of length k
pub blocks_take : (k : ℕ) (f : ℕ → List ℕ) (l : List ℕ) (n : ℕ) → ((i : ℕ) → i < n → f i ≡ take k (drop (i * k) l)) → blocks n f ≡ take (n * k) l
unfolding blocks
blocks_take k f l zero e = rw zero-mul
blocks_take k f l (suc n) e =
    let ih : blocks n f ≡ take (n * k) l = blocks_take k f l n (λ i h. e i (omega arith)) in
    rw (ih, e n (omega arith), suc-mul, take-add)

-- block i replaced, with more after the blocks
pub front_put : (k : ℕ) (f : ℕ → List ℕ) → ((i : ℕ) → length (f i) ≡ k) → (x : List ℕ) (n i : ℕ) (z : List ℕ) → i < n
    → take (i * k) (blocks n f ++ z) ++ (x ++ drop k (drop (i * k) (blocks n f ++ z))) ≡ blocks n (λ p. cond (eqb p i) x (f p)) ++ z
front_put k f sized x n i z h =
    let room : i * k + k ≤ length (blocks n f) = omega (arith, block_room k i n h, length_blocks k f sized n) in
    rw (
      take-append-le (i * k) (blocks n f) z (omega arith),
      drop-append-le (i * k) (blocks n f) z (omega arith),
      drop-append-le k (drop (i * k) (blocks n f)) z (omega (arith, length-drop (i * k) (blocks n f))),
      ← blocks_put k f sized x n i h,
    )
    (simp append_assoc)
