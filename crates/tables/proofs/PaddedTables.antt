-- Tables in the places are tables in the language: the same words are well-formed, and what forwarding writes is the forwarding sum
-- over the language's own components.
use Prim.Native.Nat.{ℕ, ◌+◌, ◌*◌, ◌/◌, ◌%◌, ◌≤◌, ◌<◌}
use mathlib.Core.Path.{◌≡◌, refl, sym, ap, ◌∙◌, subst}
use mathlib.Core.Bool.{Bool, true, false, cond, ◌&&◌, false≢true}
use mathlib.Core.List.{List, [], ◌∷◌}
use mathlib.Core.Logic.{◌↔◌}
use native.Mathlib.Omega.{arith}
use borrow.Author.Tests.{leb-true}
use lib.Dec.{leb, eqb}
use lib.ListN.{length, get_or, take}
use lib.Seq.{take-append-le}
use Rattle.algebra.specs.Modes.{forwarded}
use Rattle.algebra.proofs.Embedding.{GoesTo}
use Rattle.algebra.proofs.Carrying.{Leads}
use Rattle.weights.specs.declared.Component.{Component}
use Rattle.weights.specs.Sizes.{places, entry_words, ones}
use Rattle.weights.specs.Weights.{Weight, none, route, Valid, language}
use Rattle.weights.specs.Languages.{padded}
use Rattle.weights.specs.Words.{all_are, fits, good, malformed}
use Rattle.weights.proofs.Padding.{pad_weight}
use Rattle.weights.proofs.Readings.{fits_pad, fits_filled, fits_valid}
use Rattle.matrices.proofs.Malformed.{first_cong}
use Rattle.modes.specs.declared.Mode.{Mode}
use Rattle.modes.specs.Entries.{empty, mapped, largest_t, ValidT, ValidEntry, mode_of}
use Rattle.tables.specs.Tables.{words_of, good_entry, bad_entry, reads_route, reading_entry, is_good_entry, decoded_entry, table_words, table_in, table_place, entry_at, well_formed_entry, table_check, Sized, FormedTable}
use Rattle.tables.proofs.EntryReadings.{five_words, five_ones}
use Rattle.tables.proofs.Rooms.{in_table, Counted, counted}
use Rattle.tables.proofs.Padded.{pad_entry, entry_words_pad, PadsTo, forwarded_pad}
use Rattle.tables.proofs.TableBlocks.{table_cong}

module _ (cs : List Component) (h : length cs ≤ places) where
  module _ (mode : Mode) (cap : ℕ) where
    -- ---- entries

    -- five words that are well-formed, of which x: the weight's are ones, z: t is ones, y: the weight's fit, v: t fits
    abbrev good_when : List ℕ → Bool → Bool → Bool → Bool → Bool
    good_when l x z y v = is_good_entry (cond (x && z) (good_entry empty) (cond (reads_route (cond x (good none) (cond y (good (route l)) malformed)) && v) (good_entry (mapped l 0)) bad_entry))

    good_when_lem : (l l' k : List ℕ) (t : ℕ) (x z y v : Bool)
        → is_good_entry (cond (x && z) (good_entry empty) (cond (reads_route (cond x (good none) (cond y (good (route l')) malformed)) && v) (good_entry (mapped k t)) bad_entry)) ≡ good_when l x z y v
    good_when_lem l l' k t true true y v = refl
    good_when_lem l l' k t true false y v = refl
    good_when_lem l l' k t false z true true = refl
    good_when_lem l l' k t false z true false = refl
    good_when_lem l l' k t false z false v = refl

    five_good : (ks : List Component) (a b c d t : ℕ) → is_good_entry (reading_entry mode cap ks (a ∷ b ∷ c ∷ d ∷ t ∷ []))
        ≡ good_when (a ∷ b ∷ c ∷ d ∷ []) (all_are ones (a ∷ b ∷ c ∷ d ∷ [])) (eqb t ones) (fits cap ks (a ∷ b ∷ c ∷ d ∷ [])) (leb t (largest_t mode))
    five_good ks a b c d t =
        rw (five_ones a b c d t)
        (good_when_lem (a ∷ b ∷ c ∷ d ∷ []) (take (length ks) (a ∷ b ∷ c ∷ d ∷ [])) (take (length ks) (a ∷ b ∷ c ∷ d ∷ t ∷ [])) t (all_are ones (a ∷ b ∷ c ∷ d ∷ [])) (eqb t ones) (fits cap ks (a ∷ b ∷ c ∷ d ∷ [])) (leb t (largest_t mode)))

    five_pad : (a b c d t : ℕ) → is_good_entry (reading_entry mode cap (padded places cs) (a ∷ b ∷ c ∷ d ∷ t ∷ [])) ≡ is_good_entry (reading_entry mode cap cs (a ∷ b ∷ c ∷ d ∷ t ∷ []))
    five_pad a b c d t =
        five_good (padded places cs) a b c d t
        ∙ ap (λ (y : Bool). good_when (a ∷ b ∷ c ∷ d ∷ []) (all_are ones (a ∷ b ∷ c ∷ d ∷ [])) (eqb t ones) y (leb t (largest_t mode))) (fits_pad cap places cs (a ∷ b ∷ c ∷ d ∷ []) h refl)
        ∙ sym (five_good cs a b c d t)

    five_leads : (a b c d t : ℕ) → is_good_entry (reading_entry mode cap cs (a ∷ b ∷ c ∷ d ∷ t ∷ [])) ≡ true
        → Leads (ValidEntry (ValidT mode) cs) (pad_entry places) (decoded_entry (length cs) (a ∷ b ∷ c ∷ d ∷ t ∷ [])) (decoded_entry places (a ∷ b ∷ c ∷ d ∷ t ∷ []))
    five_leads a b c d t e =
        rw (five_ones a b c d t, cut)
        (go (all_are ones (a ∷ b ∷ c ∷ d ∷ [])) (eqb t ones) (fits cap cs (a ∷ b ∷ c ∷ d ∷ [])) refl (leb t (largest_t mode)) refl
        (sym (five_good cs a b c d t) ∙ e))
      where
        cut : take (length cs) (a ∷ b ∷ c ∷ d ∷ t ∷ []) ≡ take (length cs) (a ∷ b ∷ c ∷ d ∷ [])
        cut = take-append-le (length cs) (a ∷ b ∷ c ∷ d ∷ []) (t ∷ []) (omega arith)

        go : (x z y : Bool) → fits cap cs (a ∷ b ∷ c ∷ d ∷ []) ≡ y → (v : Bool) → leb t (largest_t mode) ≡ v → good_when (a ∷ b ∷ c ∷ d ∷ []) x z y v ≡ true
            → Leads (ValidEntry (ValidT mode) cs) (pad_entry places) (cond (x && z) empty (mapped (take (length cs) (a ∷ b ∷ c ∷ d ∷ [])) t)) (cond (x && z) empty (mapped (a ∷ b ∷ c ∷ d ∷ []) t))
        go true true y f v g q = record { kind = tt; to = refl }
        go true false y f v g q = absurd (false≢true q)
        go false z true f true g q = record {
          kind = (fits_valid cap cs (a ∷ b ∷ c ∷ d ∷ []) f, leb-true t (largest_t mode) g);
          to = ap (λ (l : List ℕ). mapped l t) (fits_filled cap places cs (a ∷ b ∷ c ∷ d ∷ []) refl f);
        }
        go false z true f false g q = absurd (false≢true q)
        go false z false f v g q = absurd (false≢true q)

    -- ---- tables

    module _ (n m : ℕ) (s : List ℕ) where
      -- the words at (i, d) are read alike
      same_good : (i d : ℕ) → table_place m i d + entry_words ≤ length s
          → is_good_entry (reading_entry mode cap (padded places cs) (entry_at s (table_place m i d))) ≡ is_good_entry (reading_entry mode cap cs (entry_at s (table_place m i d)))
      same_good i d room =
          let at : ℕ = table_place m i d in
          rw (five_words s at room) (five_pad (get_or s at 0) (get_or s (at + 1) 0) (get_or s (at + 2) 0) (get_or s (at + 3) 0) (get_or s (at + 4) 0))

      -- a table is well-formed in the places exactly where it is in the language
      pub table_formed_pad : FormedTable mode cap cs n m s ↔ FormedTable mode cap (padded places cs) n m s
      table_formed_pad = (
        λ f. record { sized = f.sized; reads = λ i d hi hd. same_good i d (in_table n m s f.sized i d hi hd).room ∙ f.reads i d hi hd },
        λ f. record { sized = f.sized; reads = λ i d hi hd. sym (same_good i d (in_table n m s f.sized i d hi hd).room) ∙ f.reads i d hi hd },
      )

      -- its entries in the places are the language's with words 0 after them
      pub table_pads : FormedTable mode cap cs n m s → PadsTo places cs h mode n m (table_in (length cs) m s) (table_in places m s)
      unfolding table_in
      table_pads f i d hi hd =
          let at : ℕ = table_place m i d in
          let q = five_words s at (in_table n m s f.sized i d hi hd).room in
          rw q (five_leads (get_or s at 0) (get_or s (at + 1) 0) (get_or s (at + 2) 0) (get_or s (at + 3) 0) (get_or s (at + 4) 0) (ap (λ (l : List ℕ). is_good_entry (reading_entry mode cap cs l)) (sym q) ∙ f.reads i d hi hd))

-- refusal 6 on a table is given alike
pub table_check_pad : (which : ℕ) (mode : Mode) (cap : ℕ) (cs : List Component) (n m : ℕ) (s : List ℕ) → length cs ≤ places → Sized n m s
    → table_check which mode cap (padded places cs) n m s ≡ table_check which mode cap cs n m s
table_check_pad which mode cap cs n m s h z = first_cong _ _ entry_words which 0 (n * m) one
  where
    one : (e : ℕ) → e < 0 + n * m → well_formed_entry mode cap (padded places cs) s (e * entry_words) ≡ well_formed_entry mode cap cs s (e * entry_words)
    one e l =
        let g : Counted n m e = counted n m e (omega arith) in
        subst (λ (k : ℕ). well_formed_entry mode cap (padded places cs) s k ≡ well_formed_entry mode cap cs s k) g.same (same_good cs h mode cap n m s (e / m) (e % m) (in_table n m s z (e / m) (e % m) g.node g.destination).room)

-- The words that forwarding writes are those of the forwarding sum over the language's own components, R in the places being R in the language.
pub forward_words : (cs : List Component) (h : length cs ≤ places) (mode : Mode) (n m cap : ℕ) (R S : ℕ → ℕ → Weight) → GoesTo (language cs) (language (padded places cs)) (Valid cs) (pad_weight places) n R S
    → (s : List ℕ) → FormedTable mode cap cs n m s
    → table_words n m (forwarded (language (padded places cs)) (mode_of mode (padded places cs)) n S (table_in places m s)) ≡ table_words n m (forwarded (language cs) (mode_of mode cs) n R (table_in (length cs) m s))
forward_words cs h mode n m cap R S r s f =
    table_cong n m _ _ (λ i d hi hd. ap words_of (sym (forwarded_pad places cs h mode n m R S r (table_in (length cs) m s) (table_in places m s) (table_pads cs h mode cap n m s f) i d hi hd).to) ∙ entry_words_pad _)
