-- Whatever the reader takes is an encoding: entries and lists.
use Prim.Native.Nat.{ℕ, zero, suc, ◌+◌, ◌*◌, ◌≤◌, ◌<◌}
use mathlib.Core.Path.{◌≡◌, refl, sym, ap, ◌∙◌, subst}
use mathlib.Core.List.{List, [], ◌∷◌, ◌++◌, append_assoc}
use mathlib.Core.Bool.{Bool, true, false, cond}
use native.Mathlib.Nat.{zero-mul, suc-mul}
use native.Mathlib.Omega.{arith}
use borrow.Author.Tests.{leb-true}
use lib.Dec.{ltb, leb}
use lib.ListN.{length, get_or, drop}
use Rattle.refusals.specs.declared.Refusal.TheVariants.{Bytes as Cut, NotAscending, Value}
use Rattle.refusals.specs.Checks.{unless}
use Rattle.refusals.proofs.First.{unless_passes, both_pass}
use Rattle.weights.specs.declared.Component.{Component}
use Rattle.weights.specs.Sizes.{arc_sum}
use Rattle.weights.specs.Languages.{components_of}
use Rattle.weights.specs.Words.{in_range}
use Rattle.fields.specs.declared.Head.{Head}
use Rattle.records.specs.declared.Listing.{Listing}
use Rattle.records.specs.declared.Listing.TheVariants.{Arcs, Attachments}
use Rattle.file_bytes.specs.Bytes.{two_at}
use Rattle.records.specs.Records.{record_length, length_of, ends_at, ends_check, values_check, record_check, records_check, record_list_check, list_end}
use Rattle.contents.specs.Contents.{columns, values_at, outside_at}
use Rattle.records.specs.Parts.{InRange}
use Rattle.records.proofs.Listed.{record_ends}
use Rattle.encoded.specs.Encode.{ListEntry, SoundValues, SoundOutside, no_outside, bytes2, value_bytes, outside_bytes, entry_bytes, entries_bytes, list_bytes}
use Rattle.encoded.specs.Taken.{AreBytes}
use Rattle.encoded.proofs.Entries.{SoundFor, AllSound, Counted}
use Rattle.encoded.proofs.TakenLanguage.{one_more, two_more, two_small}
use Rattle.std.specs.Prelude.{Ok}

-- ---- values

values_of : (s : List ℕ) (at c : ℕ) → AreBytes s → at + c * 2 ≤ length s → drop at s ≡ value_bytes (values_at s at c) ++ drop (at + c * 2) s
values_of s at zero by h = let z : at ≡ at + 0 * 2 = omega arith in ap (λ (k : ℕ). drop k s) z
values_of s at (suc c) by h =
    let z : at + 2 + c * 2 ≡ at + suc c * 2 = omega arith in
    two_more s at by (omega arith)
    ∙ ap (λ (l : List ℕ). bytes2 (two_at s at) ++ l) (values_of s (at + 2) c by (omega arith) ∙ ap (λ (k : ℕ). value_bytes (values_at s (at + 2) c) ++ drop k s) z)
    ∙ sym (append_assoc (bytes2 (two_at s at)) (value_bytes (values_at s (at + 2) c)) (drop (at + suc c * 2) s))

pub values_sound : (s : List ℕ) (cs : List Component) (at : ℕ) → values_check s cs at ≡ Ok tt → SoundValues cs (values_at s at (length cs))
unfolding values_check
values_sound s [] at e = tt
values_sound s (c ∷ cs) at e =
    let f = both_pass (unless (in_range arc_sum c (two_at s at)) (Value 0 at)) _ e in
    (unless_passes _ (Value 0 at) f.0, values_sound s cs (at + 2) f.1)

-- ---- one entry

abbrev outside_of : List ℕ → Head → Listing → ℕ → ℕ
outside_of s h Arcs at = 0
outside_of s h Attachments at = outside_at s h at

abbrev entry_at : List ℕ → Head → Listing → ℕ → ListEntry
entry_at s h list at = record { row = get_or s at 0; column = get_or s (at + 1) 0; values = values_at s (at + 2) h.language.count; outside = outside_of s h list at }

outside_of_lem : (s : List ℕ) (h : Head) (list : Listing) (at : ℕ) → AreBytes s → at + length_of h list ≤ length s
    → drop (at + 2 + h.language.count * 2) s ≡ outside_bytes list h.mode (outside_of s h list at) ++ drop (at + length_of h list) s
unfolding record_length outside_at
outside_of_lem s h Arcs at by room =
    let z : at + 2 + h.language.count * 2 ≡ at + (2 + h.language.count * 2 + 0) = omega arith in ap (λ (k : ℕ). drop k s) z
outside_of_lem s h Attachments at by room = go (ltb h.mode 2) room
  where
    go : (b : Bool) → at + (2 + h.language.count * 2 + cond b 0 2) ≤ length s
        → drop (at + 2 + h.language.count * 2) s
        ≡ cond b [] (bytes2 (cond b 0 (two_at s (at + 2 + h.language.count * 2)))) ++ drop (at + (2 + h.language.count * 2 + cond b 0 2)) s
    go true r = let z : at + 2 + h.language.count * 2 ≡ at + (2 + h.language.count * 2 + 0) = omega arith in ap (λ (k : ℕ). drop k s) z
    go false r =
        let z : at + 2 + h.language.count * 2 + 2 ≡ at + (2 + h.language.count * 2 + 2) = omega arith in
        two_more s (at + 2 + h.language.count * 2) by (omega arith) ∙ ap (λ (k : ℕ). bytes2 (two_at s (at + 2 + h.language.count * 2)) ++ drop k s) z

outside_sound : (s : List ℕ) (h : Head) (list : Listing) (at : ℕ) → AreBytes s → SoundOutside (no_outside list h.mode) (outside_of s h list at)
unfolding outside_at
outside_sound s h Arcs at by = refl
outside_sound s h Attachments at by = go (ltb h.mode 2)
  where
    go : (b : Bool) → SoundOutside b (cond b 0 (two_at s (at + 2 + h.language.count * 2)))
    go true = refl
    go false = two_small s (at + 2 + h.language.count * 2) by

least : (h : Head) (list : Listing) → 2 + h.language.count * 2 ≤ length_of h list
unfolding record_length
least h list = omega arith

entry_bytes_lem : (s : List ℕ) (h : Head) (list : Listing) (at : ℕ) → AreBytes s → at + length_of h list ≤ length s
    → drop at s ≡ entry_bytes list h.mode (entry_at s h list at) ++ drop (at + length_of h list) s
entry_bytes_lem s h list at by room =
    let l = least h list in
    let z : at + 1 + 1 ≡ at + 2 = omega arith in
    one_more s at (omega arith)
    ∙ ap (λ (x : List ℕ). get_or s at 0 ∷ x) (one_more s (at + 1) (omega arith))
    ∙ ap (λ (k : ℕ). get_or s at 0 ∷ get_or s (at + 1) 0 ∷ drop k s) z
    ∙ ap (λ (x : List ℕ). get_or s at 0 ∷ get_or s (at + 1) 0 ∷ x)
    (values_of s (at + 2) h.language.count by (omega arith)
    ∙ ap (λ (x : List ℕ). value_bytes (values_at s (at + 2) h.language.count) ++ x) (outside_of_lem s h list at by room)
    ∙ sym (append_assoc (value_bytes (values_at s (at + 2) h.language.count)) (outside_bytes list h.mode (outside_of s h list at)) (drop (at + length_of h list) s)))

ends_in : (s : List ℕ) (h : Head) (list : Listing) (at : ℕ) → InRange h (ends_at s list at) → (get_or s at 0 < h.n) × (get_or s (at + 1) 0 < columns h list)
ends_in s h Arcs at r = r
ends_in s h Attachments at r = r

pub record EntryOf (s : List ℕ) (h : Head) (list : Listing) (at low : ℕ) : Type 0 where
  pub bytes : drop at s ≡ entry_bytes list h.mode (entry_at s h list at) ++ drop (at + length_of h list) s
  pub sound : SoundFor h list low (entry_at s h list at)
  pub into : at + length_of h list ≤ length s

entry_of_lem : (s : List ℕ) (h : Head) → Counted h → (list : Listing) (at low : ℕ) → AreBytes s → record_check s h list at low ≡ Ok tt → EntryOf s h list at low
unfolding record_check two_at
entry_of_lem s h c list at low by e =
    let f = both_pass (unless (leb (at + length_of h list) (length s)) (Cut 0 at)) _ e in
    let g = both_pass (ends_check h at (ends_at s list at)) _ f.1 in
    let o = both_pass (unless (leb low (get_or s at 0 * 256 + get_or s (at + 1) 0)) (NotAscending 0 at)) _ g.1 in
    let room : at + length_of h list ≤ length s = leb-true (at + length_of h list) (length s) (unless_passes _ (Cut 0 at) f.0) in
    let r = ends_in s h list at (record_ends s h list at low e) in
    record {
      bytes = entry_bytes_lem s h list at by room;
      sound = record {
        row_in = r.0;
        column_in = r.1;
        after = leb-true low (get_or s at 0 * 256 + get_or s (at + 1) 0) (unless_passes _ (NotAscending 0 at) o.0);
        sound = subst (λ (k : ℕ). SoundValues (components_of h.language) (values_at s (at + 2) k)) c.count_is (values_sound s (components_of h.language) (at + 2) o.1);
        out = outside_sound s h list at by;
      };
      into = room;
    }

-- ---- a list

pub record EntriesOf (s : List ℕ) (h : Head) (list : Listing) (at low count : ℕ) : Type 0 where
  pub entries : List ListEntry
  pub counted : length entries ≡ count
  pub bytes : drop at s ≡ entries_bytes list h.mode entries ++ drop (at + count * length_of h list) s
  pub sound : AllSound h list low entries

key_is : (s : List ℕ) (h : Head) (list : Listing) (at : ℕ) → two_at s at ≡ (entry_at s h list at).row * 256 + (entry_at s h list at).column
unfolding two_at
key_is s h list at = refl

entries_of : (s : List ℕ) (h : Head) → Counted h → (list : Listing) (count at low : ℕ) → AreBytes s → records_check s h list at low count ≡ Ok tt → EntriesOf s h list at low count
unfolding records_check
entries_of s h c list zero at low by e =
    let z : at ≡ at + 0 * length_of h list = omega (arith, zero-mul (length_of h list)) in
    record { entries = []; counted = refl; bytes = ap (λ (k : ℕ). drop k s) z; sound = tt }
entries_of s h c list (suc count) at low by e =
    let f = both_pass (record_check s h list at low) _ e in
    let a = entry_of_lem s h c list at low by f.0 in
    let r = entries_of s h c list count (at + length_of h list) (two_at s at + 1) by f.1 in
    let z : at + length_of h list + count * length_of h list ≡ at + suc count * length_of h list = omega (arith, suc-mul count (length_of h list)) in
    record {
      entries = entry_at s h list at ∷ r.entries;
      counted = ap suc r.counted;
      bytes =
          a.bytes
          ∙ ap (λ (l : List ℕ). entry_bytes list h.mode (entry_at s h list at) ++ l) (r.bytes ∙ ap (λ (k : ℕ). entries_bytes list h.mode r.entries ++ drop k s) z)
          ∙ sym (append_assoc (entry_bytes list h.mode (entry_at s h list at)) (entries_bytes list h.mode r.entries) (drop (at + suc count * length_of h list) s));
      sound = (a.sound, subst (λ (x : ℕ). AllSound h list (x + 1) r.entries) (key_is s h list at) r.sound);
    }

pub record ListOf (s : List ℕ) (h : Head) (list : Listing) (at : ℕ) : Type 0 where
  pub entries : List ListEntry
  pub bytes : drop at s ≡ list_bytes list h.mode entries ++ drop (list_end s h list at) s
  pub sound : AllSound h list 0 entries

pub list_of : (s : List ℕ) (h : Head) → Counted h → (list : Listing) (at : ℕ) → AreBytes s → record_list_check s h list at ≡ Ok tt → ListOf s h list at
unfolding record_list_check list_end
list_of s h c list at by e =
    let f = both_pass (unless (leb (at + 2) (length s)) (Cut 0 at)) _ e in
    let r = entries_of s h c list (two_at s at) (at + 2) 0 by f.1 in
    record {
      entries = r.entries;
      bytes =
          two_more s at by (leb-true (at + 2) (length s) (unless_passes _ (Cut 0 at) f.0))
          ∙ ap (λ (v : ℕ). bytes2 v ++ drop (at + 2) s) (sym r.counted)
          ∙ ap (λ (l : List ℕ). bytes2 (length r.entries) ++ l) r.bytes
          ∙ sym (append_assoc (bytes2 (length r.entries)) (entries_bytes list h.mode r.entries) (drop (at + 2 + two_at s at * length_of h list) s));
      sound = r.sound;
    }
