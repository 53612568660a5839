-- Where the entries of a table lie: within the buffer, which is small, and entry e is that of node e / m and destination e % m.
use Prim.Native.Nat.{ℕ, zero, suc, ◌+◌, ◌*◌, ◌/◌, ◌%◌, ◌≤◌, ◌<◌}
use mathlib.Core.Path.{◌≡◌, sym, ap, ◌∙◌, refl}
use mathlib.Core.Bool.{true, false}
use mathlib.Core.List.{List}
use native.Mathlib.Nat.{mul-le-mul, mul-le-mul_right, mul_assoc, div-add-mod', div-lt_iff_lt-mul, mod-lt}
use native.Mathlib.Omega.{arith}
use lib.ListN.{length}
use Rattle.weights.specs.declared.Component.{Component}
use Rattle.weights.specs.Sizes.{entry_words}
use Rattle.matrices.proofs.Blocks.{block_room}
use Rattle.modes.specs.declared.Mode.{Mode}
use Rattle.modes.specs.declared.Entry as declared
use Rattle.tables.specs.Tables.{reading_entry, entry_read_of, is_good_entry, table_place, entry_at, well_formed_entry, Sized}
use Rattle.tables.specs.Parts.{InTable}
use Rattle.std.specs.Prelude.{Option, Some, None, is_some}

-- the buffer is small
pub table_small : (n m : ℕ) (s : List ℕ) → Sized n m s → length s ≤ 2560
table_small n m s h = omega (arith, mul-le-mul h.few_nodes (mul-le-mul_right entry_words h.few_destinations), h.long)

-- the row of node i lies within the buffer
pub row_within : (n m : ℕ) (s : List ℕ) → Sized n m s → (i : ℕ) → i < n → i * (m * entry_words) + m * entry_words ≤ length s
row_within n m s h i hi = omega (arith, block_room (m * entry_words) i n hi, h.long)

pub in_table : (n m : ℕ) (s : List ℕ) → Sized n m s → (i d : ℕ) → i < n → d < m → InTable m i d s
in_table n m s h i d hi hd = record {
  node = omega (arith, h.few_nodes);
  destination = hd;
  few = h.few_destinations;
  room = omega (arith, row_within n m s h i hi, block_room entry_words d m hd);
}

-- ---- entries counted by rows

pub few_entries : (n m : ℕ) (s : List ℕ) → Sized n m s → n * m ≤ 512
few_entries n m s h = mul-le-mul h.few_nodes h.few_destinations

-- entry e is that of a node and a destination
pub record Counted (n m e : ℕ) : Type 0 where
  pub some : 0 < m
  pub node : e / m < n
  pub destination : e % m < m
  pub same : table_place m (e / m) (e % m) ≡ e * entry_words

pub counted : (n m e : ℕ) → e < n * m → Counted n m e
counted n m e h = record {
  some = positive;
  node = (div-lt_iff_lt-mul positive).1 h;
  destination = mod-lt e positive;
  same = let q : e / m * m + e % m ≡ e = div-add-mod' e m in omega (arith, ap (λ (k : ℕ). k * entry_words) q, mul_assoc (e / m) m entry_words);
}
  where
    go : (m : ℕ) → e < n * m → 0 < m
    go zero l = absurd (omega arith)
    go (suc m) l = omega arith

    positive : 0 < m
    positive = go m h

-- what the code reads is the test
module _ (mode : Mode) (cap : ℕ) (cs : List Component) (s : List ℕ) (n m e : ℕ) (h : e < n * m) (r : Option declared.Entry) (q : entry_read_of r ≡ reading_entry mode cap cs (entry_at s (table_place m (e / m) (e % m)))) where
  told : is_good_entry (entry_read_of r) ≡ well_formed_entry mode cap cs s (e * entry_words)
  told = ap is_good_entry q ∙ ap (well_formed_entry mode cap cs s) (counted n m e h).same

  good_read : (x : Option declared.Entry) → is_good_entry (entry_read_of x) ≡ is_some x
  good_read (Some x) = refl
  good_read None = refl

  pub entry_bad : is_some r ≡ false → well_formed_entry mode cap cs s (e * entry_words) ≡ false
  entry_bad g = sym told ∙ good_read r ∙ g

  pub entry_good : is_some r ≡ true → well_formed_entry mode cap cs s (e * entry_words) ≡ true
  entry_good g = sym told ∙ good_read r ∙ g
