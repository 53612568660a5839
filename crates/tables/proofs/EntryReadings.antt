-- The words of an entry in a buffer, one by one, and what the code reads from them.
use Prim.Native.Nat.{ℕ, suc, ◌+◌, ◌≤◌, ◌<◌}
use mathlib.Core.Path.{◌≡◌, refl, sym, ap, ◌∙◌}
use mathlib.Core.Bool.{Bool, true, false, cond, ◌&&◌}
use mathlib.Core.List.{List, [], ◌∷◌}
use native.Mathlib.Numerals.{add-one, add-two, add-three, add-four}
use native.Mathlib.Omega.{arith}
use lib.Dec.{leb, eqb}
use lib.ListN.{length, get_or, take, drop}
use lib.Seq.{drop-cons}
use Rattle.weights.specs.declared.PerPlace.{PerPlace}
use Rattle.weights.specs.declared.Component.{Component}
use Rattle.weights.specs.declared.Weight as declared
use Rattle.weights.specs.Sizes.{places, weight_words, entry_words, ones}
use Rattle.weights.specs.Weights.{Weight, none, route}
use Rattle.weights.specs.Languages.{places_of}
use Rattle.weights.specs.Values.{weight_of}
use Rattle.weights.specs.Words.{all_are, fits, Reading, good, malformed, reading, read_of}
use Rattle.weights.proofs.Buffers.{four_words_lem}
use Rattle.weights.proofs.Readings.{good_one}
use Rattle.modes.specs.declared.Mode.{Mode}
use Rattle.modes.specs.Entries.{empty, mapped, largest_t}
use Rattle.tables.specs.Tables.{EntryReading, good_entry, bad_entry, reads_route, reading_entry, entry_at, table_place, table_in}
use Rattle.tables.specs.Parts.{route_read}
use Rattle.std.specs.Prelude.{Option, Some, None}

-- ---- five words

pub five_words : (s : List ℕ) (at : ℕ) → at + entry_words ≤ length s
    → entry_at s at ≡ get_or s at 0 ∷ get_or s (at + 1) 0 ∷ get_or s (at + 2) 0 ∷ get_or s (at + 3) 0 ∷ get_or s (at + 4) 0 ∷ []
five_words s at h =
    let h0 : at < length s = omega arith in
    let h1 : suc at < length s = omega arith in
    let h2 : suc (suc at) < length s = omega arith in
    let h3 : suc (suc (suc at)) < length s = omega arith in
    let h4 : suc (suc (suc (suc at))) < length s = omega arith in
    simp (add-one, add-two, add-three, add-four)
    (rw (drop-cons s at 0 h0, drop-cons s (suc at) 0 h1, drop-cons s (suc (suc at)) 0 h2, drop-cons s (suc (suc (suc at))) 0 h3, drop-cons s (suc (suc (suc (suc at)))) 0 h4))

five_are : (a b c d t : Bool) → (a && (b && (c && (d && (t && true))))) ≡ ((a && (b && (c && (d && true)))) && t)
five_are false b c d t = refl
five_are true false c d t = refl
five_are true true false d t = refl
five_are true true true false t = refl
five_are true true true true false = refl
five_are true true true true true = refl

-- the weight's words are ones, and so is t
pub five_ones : (a b c d t : ℕ) → all_are ones (a ∷ b ∷ c ∷ d ∷ t ∷ []) ≡ (all_are ones (a ∷ b ∷ c ∷ d ∷ []) && eqb t ones)
five_ones a b c d t = five_are (eqb a ones) (eqb b ones) (eqb c ones) (eqb d ones) (eqb t ones)

-- ---- a weight that was read, with t

module _ (mode : Mode) (t : ℕ) (l : List ℕ) where
  abbrev weight_read : Bool → Bool → Reading
  weight_read x y = cond x (good none) (cond y (good (route l)) malformed)

  abbrev entry_read : Bool → Bool → EntryReading
  entry_read x y = cond (x && eqb t ones) (good_entry empty) (cond (reads_route (weight_read x y) && leb t (largest_t mode)) (good_entry (mapped l t)) bad_entry)

  apart : {w : Weight} {A : Type 0} → malformed ≡ good w → A
  apart e = let z : ◌≡◌ {A = ℕ} 0 1 = cc in absurd (omega arith)

  well : (x y : Bool) (w : Weight) → weight_read x y ≡ good w → entry_read x y ≡ route_read mode w t
  well true y w e = ap (λ (v : Weight). route_read mode v t) (good_one e)
  well false true w e = ap (λ (v : Weight). route_read mode v t) (good_one e)
  well false false w e = apart e

  ill : (x y : Bool) → weight_read x y ≡ malformed → entry_read x y ≡ bad_entry
  ill true y e = apart (sym e)
  ill false true e = apart (sym e)
  ill false false e = refl

module _ (mode : Mode) (cap : ℕ) (p : PerPlace Component) where
  read_well : (a b c d t : ℕ) (w : Weight) → reading cap (places_of p) (a ∷ b ∷ c ∷ d ∷ []) ≡ good w → reading_entry mode cap (places_of p) (a ∷ b ∷ c ∷ d ∷ t ∷ []) ≡ route_read mode w t
  read_well a b c d t w e = rw (five_ones a b c d t) (well mode t (a ∷ b ∷ c ∷ d ∷ []) (all_are ones (a ∷ b ∷ c ∷ d ∷ [])) (fits cap (places_of p) (a ∷ b ∷ c ∷ d ∷ [])) w e)

  read_ill : (a b c d t : ℕ) → reading cap (places_of p) (a ∷ b ∷ c ∷ d ∷ []) ≡ malformed → reading_entry mode cap (places_of p) (a ∷ b ∷ c ∷ d ∷ t ∷ []) ≡ bad_entry
  read_ill a b c d t e = rw (five_ones a b c d t) (ill mode t (a ∷ b ∷ c ∷ d ∷ []) (all_are ones (a ∷ b ∷ c ∷ d ∷ [])) (fits cap (places_of p) (a ∷ b ∷ c ∷ d ∷ [])) e)

  module _ (s : List ℕ) (at q : ℕ) (room : at + entry_words ≤ length s) (e : q ≡ at) (r : Option declared.Weight) (h : read_of r ≡ reading cap (places_of p) (take weight_words (drop q s))) where
    there : read_of r ≡ reading cap (places_of p) (get_or s at 0 ∷ get_or s (at + 1) 0 ∷ get_or s (at + 2) 0 ∷ get_or s (at + 3) 0 ∷ [])
    there = h ∙ ap (λ (k : ℕ). reading cap (places_of p) (take weight_words (drop k s))) e ∙ ap (reading cap (places_of p)) (four_words_lem s at (omega arith))

    -- the code read a weight, and t after it
    pub entry_well : (w : declared.Weight) → r ≡ Some w → reading_entry mode cap (places_of p) (entry_at s at) ≡ route_read mode (weight_of w) (get_or s (q + 4) 0)
    entry_well w g =
        ap (reading_entry mode cap (places_of p)) (five_words s at room)
        ∙ read_well (get_or s at 0) (get_or s (at + 1) 0) (get_or s (at + 2) 0) (get_or s (at + 3) 0) (get_or s (at + 4) 0) (weight_of w) (sym there ∙ ap read_of g)
        ∙ ap (λ (k : ℕ). route_read mode (weight_of w) (get_or s (k + 4) 0)) (sym e)

    -- the code read no weight
    pub entry_ill : r ≡ None → reading_entry mode cap (places_of p) (entry_at s at) ≡ bad_entry
    entry_ill g =
        ap (reading_entry mode cap (places_of p)) (five_words s at room)
        ∙ read_ill (get_or s at 0) (get_or s (at + 1) 0) (get_or s (at + 2) 0) (get_or s (at + 3) 0) (get_or s (at + 4) 0) (sym there ∙ ap read_of g)

-- ---- an entry looked up

module _ (m i d : ℕ) (s : List ℕ) (q : ℕ) (room : table_place m i d + entry_words ≤ length s) (e : q ≡ table_place m i d) (b : Bool)
    (h : b ≡ all_are ones (get_or s q 0 ∷ get_or s (q + 1) 0 ∷ get_or s (q + 2) 0 ∷ get_or s (q + 3) 0 ∷ get_or s (q + 4) 0 ∷ [])) where
  five : entry_at s (table_place m i d) ≡ get_or s q 0 ∷ get_or s (q + 1) 0 ∷ get_or s (q + 2) 0 ∷ get_or s (q + 3) 0 ∷ get_or s (q + 4) 0 ∷ []
  five = rw e (five_words s (table_place m i d) room)

  pub look_empty : b ≡ true → empty ≡ table_in places m s i d
  unfolding table_in
  look_empty t = rw (five, sym h ∙ t)

  pub look_mapped : b ≡ false → mapped (get_or s q 0 ∷ get_or s (q + 1) 0 ∷ get_or s (q + 2) 0 ∷ get_or s (q + 3) 0 ∷ []) (get_or s (q + 4) 0) ≡ table_in places m s i d
  unfolding table_in
  look_mapped t = rw (five, sym h ∙ t)
