-- The forwarding sum node by node, and what the entries of a well-formed table are.
use Prim.Native.Nat.{ℕ, ◌+◌, ◌≤◌, ◌<◌}
use mathlib.Core.Path.{◌≡◌, refl, sym, ap, ap₂, ◌∙◌}
use mathlib.Core.Bool.{Bool, true, false, cond, ◌&&◌, false≢true}
use mathlib.Core.List.{List, [], ◌∷◌}
use native.Mathlib.Numerals.{add-one}
use native.Mathlib.Omega.{arith}
use borrow.Author.Tests.{leb-true}
use lib.Dec.{leb, eqb}
use lib.ListN.{get_or}
use Rattle.algebra.specs.Order.{pick, best_of}
use Rattle.algebra.specs.Modes.{forwarded}
use Rattle.weights.specs.declared.Component.{Component}
use Rattle.weights.specs.declared.PerPlace.{PerPlace}
use Rattle.weights.specs.Sizes.{places, ones, arc_sum, matrix_sum}
use Rattle.weights.specs.Weights.{Weight, none, route, language}
use Rattle.weights.specs.Languages.{places_of, SmallLimits}
use Rattle.weights.specs.Values.{AtMost}
use Rattle.weights.specs.Words.{all_are, fits, good, malformed}
use Rattle.weights.proofs.Readings.{fits_valid}
use Rattle.matrices.specs.Buffers.{matrix_in}
use Rattle.matrices.proofs.Bounds.{fits_most, formed_most, most_weaken}
use Rattle.modes.specs.declared.Mode.{Mode}
use Rattle.modes.specs.Entries.{Entry, empty, mapped, applied, largest_t, ValidT, ValidEntry, mode_of}
use Rattle.tables.specs.Tables.{good_entry, bad_entry, reads_route, reading_entry, is_good_entry, decoded_entry, table_place, table_in, FormedTable}
use Rattle.tables.specs.Parts.{GivenTable}
use Rattle.modes.specs.Gains.{weight_in}
use Rattle.tables.proofs.EntryReadings.{five_words, five_ones}
use Rattle.tables.proofs.Rooms.{in_table}

-- ---- one node more

module _ (mode : Mode) (cs : List Component) (R : ℕ → ℕ → Weight) (M : ℕ → ℕ → Entry) (i d : ℕ) where
  -- the best over the first k nodes
  abbrev pub over : ℕ → Entry
  over k = forwarded (language cs) (mode_of mode cs) k R M i d

  pub over_none : over 0 ≡ empty
  unfolding forwarded best_of
  over_none = refl

  over_more : (k : ℕ) → over (k + 1) ≡ pick (mode_of mode cs).entries (over k) (applied cs (R i k) (M k d))
  unfolding forwarded best_of
  over_more k = rw add-one

  pub over_next : (k : ℕ) (e e' : Entry) (x : Weight) → e' ≡ pick (mode_of mode cs).entries e (applied cs x (M k d)) → x ≡ R i k → e ≡ over k → e' ≡ over (k + 1)
  over_next k e e' x h q w = h ∙ ap₂ (λ (f : Entry) (y : Weight). pick (mode_of mode cs).entries f (applied cs y (M k d))) w q ∙ sym (over_more k)

-- no route leaves an entry as it is
pub left_out : (mode : Mode) (cs : List Component) (e f : Entry) → e ≡ pick (mode_of mode cs).entries e (applied cs none f)
unfolding pick
left_out mode cs e empty = refl
left_out mode cs e (mapped xs t) = refl

-- ---- the entries of a well-formed table

-- an entry of the language and the mode, no value above b
pub record Entered (mode : Mode) (b : ℕ) (cs : List Component) (e : Entry) : Type 0 where
  pub valid : ValidEntry (ValidT mode) cs e
  pub most : AtMost b (weight_in e)

module _ (mode : Mode) (cap : ℕ) (p : PerPlace Component) (big : arc_sum ≤ cap) (limits : SmallLimits 65535 (places_of p)) where
  read_entered : (a b c d t : ℕ) → is_good_entry (reading_entry mode cap (places_of p) (a ∷ b ∷ c ∷ d ∷ t ∷ [])) ≡ true → Entered mode cap (places_of p) (decoded_entry places (a ∷ b ∷ c ∷ d ∷ t ∷ []))
  read_entered a b c d t = rw (five_ones a b c d t) (go (all_are ones (a ∷ b ∷ c ∷ d ∷ [])) (eqb t ones) (fits cap (places_of p) (a ∷ b ∷ c ∷ d ∷ [])) refl (leb t (largest_t mode)) refl)
    where
      l : List ℕ
      l = a ∷ b ∷ c ∷ d ∷ []

      go : (x z y : Bool) → fits cap (places_of p) (a ∷ b ∷ c ∷ d ∷ []) ≡ y → (v : Bool) → leb t (largest_t mode) ≡ v
          → is_good_entry (cond (x && z) (good_entry empty) (cond (reads_route (cond x (good none) (cond y (good (route (a ∷ b ∷ c ∷ d ∷ []))) malformed)) && v) (good_entry (mapped (a ∷ b ∷ c ∷ d ∷ []) t)) bad_entry)) ≡ true
          → Entered mode cap (places_of p) (cond (x && z) empty (mapped (a ∷ b ∷ c ∷ d ∷ []) t))
      go true true y f v g e = record { valid = tt; most = tt }
      go true false y f v g e = absurd (false≢true e)
      go false z true f true g e = record { valid = (fits_valid cap (places_of p) (a ∷ b ∷ c ∷ d ∷ []) f, leb-true t (largest_t mode) g); most = fits_most cap arc_sum (places_of p) (a ∷ b ∷ c ∷ d ∷ []) big limits f }
      go false z true f false g e = absurd (false≢true e)
      go false z false f v g e = absurd (false≢true e)

  pub table_entered : (n m : ℕ) (s : List ℕ) → FormedTable mode cap (places_of p) n m s → (i d : ℕ) → i < n → d < m → Entered mode cap (places_of p) (table_in places m s i d)
  unfolding table_in
  table_entered n m s f i d hi hd =
      let at : ℕ = table_place m i d in
      let q = five_words s at (in_table n m s f.sized i d hi hd).room in
      rw q (read_entered (get_or s at 0) (get_or s (at + 1) 0) (get_or s (at + 2) 0) (get_or s (at + 3) 0) (get_or s (at + 4) 0) (ap (λ (l : List ℕ). is_good_entry (reading_entry mode cap (places_of p) l)) (sym q) ∙ f.reads i d hi hd))

module _ (mode : Mode) (p : PerPlace Component) (n m : ℕ) (r s : List ℕ) (g : GivenTable mode (places_of p) n m r s) where
  -- weights and entries are small enough to be joined
  pub route_most : (i k : ℕ) → i < n → k < n → AtMost 2147483647 (matrix_in places n r i k)
  route_most i k hi hk = most_weaken matrix_sum 2147483647 (matrix_in places n r i k) (omega arith) (formed_most matrix_sum p n r (omega arith) g.limits g.routes i k hi hk)

  pub entry_most : (k d : ℕ) → k < n → d < m → AtMost 2147483647 (weight_in (table_in places m s k d))
  entry_most k d hk hd = most_weaken arc_sum 2147483647 (weight_in (table_in places m s k d)) (omega arith) (table_entered mode arc_sum p (omega arith) g.limits n m s g.table k d hk hd).most
