-- Reading the entries of an encoded problem: they pass, and leave the words that were encoded.
use Prim.Native.Nat.{ℕ, suc, ◌+◌, ◌*◌, ◌≤◌, ◌<◌}
use mathlib.Core.Path.{◌≡◌, refl, sym, ap, ◌∙◌}
use mathlib.Core.List.{List, [], ◌∷◌, ◌++◌, append_assoc}
use mathlib.Core.Bool.{Bool, true, false, cond, ◌&&◌}
use native.Mathlib.Nat.{add-zero, suc-mul}
use native.Mathlib.Omega.{arith}
use borrow.Author.Tests.{le-leb, lt-ltb}
use lib.Dec.{ltb, eqb}
use lib.ListN.{length, get_or, drop, length-append}
use Rattle.weights.specs.declared.Component.{Component}
use Rattle.weights.specs.Weights.{route}
use Rattle.weights.specs.Languages.{components_of}
use Rattle.weights.specs.Words.{words}
use Rattle.fields.specs.declared.Head.{Head}
use Rattle.records.specs.declared.Listing.{Listing}
use Rattle.records.specs.declared.Listing.TheVariants.{Arcs, Attachments}
use Rattle.file_bytes.specs.Bytes.{two_at}
use Rattle.records.specs.Records.{record_length, length_of, ends_at, ends_check, values_check, record_check, records_check, record_list_check, list_end}
use Rattle.contents.specs.Contents.{columns, values_at, outside_at, with_outside, record_words, row_of_ends, column_of_ends, is_at, listed_words}
use Rattle.encoded.specs.Encode.{ListEntry, SoundValues, SoundOutside, SoundEntry, SoundEntries, bytes2, value_bytes, outside_bytes, entry_bytes, entries_bytes, list_bytes, put}
use Rattle.encoded.proofs.Here.{here, past, within, two_here}
use Rattle.std.specs.Prelude.{Ok}

-- entries that are sound for a head
abbrev pub SoundFor : Head → Listing → ℕ → ListEntry → Type 0
SoundFor h list low e = SoundEntry h.n (columns h list) h.mode (components_of h.language) list low e

abbrev pub AllSound : Head → Listing → ℕ → List ListEntry → Type 0
AllSound h list low es = SoundEntries h.n (columns h list) h.mode (components_of h.language) list low es

-- the language's count is that of its components
pub record Counted (h : Head) : Type 0 where
  pub count_is : length (components_of h.language) ≡ h.language.count

-- ---- values

pub length_values : (vs : List ℕ) → length (value_bytes vs) ≡ length vs * 2
unfolding bytes2
length_values [] = refl
length_values (v ∷ vs) = omega (arith, length_values vs)

pub sound_length : (cs : List Component) (vs : List ℕ) → SoundValues cs vs → length vs ≡ length cs
sound_length [] [] h = refl
sound_length [] (v ∷ vs) h = absurd h
sound_length (c ∷ cs) [] h = absurd h
sound_length (c ∷ cs) (v ∷ vs) h = ap suc (sound_length cs vs h.1)

values_pass : (s : List ℕ) (cs : List Component) (vs : List ℕ) (at : ℕ) (l : List ℕ) → drop at s ≡ value_bytes vs ++ l → SoundValues cs vs → values_check s cs at ≡ Ok tt
unfolding values_check
values_pass s [] [] at l e ok = refl
values_pass s [] (v ∷ vs) at l e ok = absurd ok
values_pass s (c ∷ cs) [] at l e ok = absurd ok
values_pass s (c ∷ cs) (v ∷ vs) at l e ok =
    let b = two_here s at v (value_bytes vs ++ l) (e ∙ append_assoc (bytes2 v) (value_bytes vs) l) in
    rw (b.is, ok.0) (values_pass s cs vs (at + 2) l b.rest ok.1)

values_are : (s : List ℕ) (vs : List ℕ) (at : ℕ) (l : List ℕ) → drop at s ≡ value_bytes vs ++ l → values_at s at (length vs) ≡ vs
values_are s [] at l e = refl
values_are s (v ∷ vs) at l e =
    let b = two_here s at v (value_bytes vs ++ l) (e ∙ append_assoc (bytes2 v) (value_bytes vs) l) in
    rw b.is (ap (λ (z : List ℕ). v ∷ z) (values_are s vs (at + 2) l b.rest))

-- ---- one entry

length_outside : (list : Listing) (h : Head) (t : ℕ) → length (outside_bytes list h.mode t) + 2 + h.language.count * 2 ≡ length_of h list
unfolding record_length bytes2
length_outside Arcs h t = omega arith
length_outside Attachments h t = go (ltb h.mode 2)
  where
    go : (b : Bool) → length (cond b [] (bytes2 t)) + 2 + h.language.count * 2 ≡ 2 + h.language.count * 2 + cond b 0 2
    go true = omega arith
    go false = omega arith

pub length_entry : (h : Head) → Counted h → (list : Listing) (low : ℕ) (e : ListEntry) → SoundFor h list low e → length (entry_bytes list h.mode e) ≡ length_of h list
length_entry h k list low e ok =
    omega (
      arith,
      length-append (value_bytes e.values) (outside_bytes list h.mode e.outside),
      length_values e.values,
      sound_length (components_of h.language) e.values ok.sound,
      k.count_is,
      length_outside list h e.outside,
    )

pub record EntryHere (s : List ℕ) (h : Head) (list : Listing) (at low : ℕ) (e : ListEntry) : Type 0 where
  pub passes : record_check s h list at low ≡ Ok tt
  pub key : two_at s at ≡ e.row * 256 + e.column
  pub row_is : row_of_ends (ends_at s list at) ≡ e.row
  pub column_is : column_of_ends (ends_at s list at) ≡ e.column
  pub words_are : record_words s h list at ≡ with_outside list (words (route e.values)) e.outside

ends_ok : (s : List ℕ) (h : Head) (list : Listing) (at x y : ℕ) → get_or s at 0 ≡ x → get_or s (at + 1) 0 ≡ y → x < h.n → y < columns h list
    → (ends_check h at (ends_at s list at) ≡ Ok tt) × (row_of_ends (ends_at s list at) ≡ x) × (column_of_ends (ends_at s list at) ≡ y)
unfolding ends_check
ends_ok s h Arcs at x y p q hx hy = (rw (p, q, lt-ltb x h.n hx, lt-ltb y h.n hy), p, q)
ends_ok s h Attachments at x y p q hx hy = (rw (p, q, lt-ltb x h.n hx, lt-ltb y h.m hy), p, q)

outside_is : (s : List ℕ) (h : Head) (at t : ℕ) (l : List ℕ) → SoundOutside (ltb h.mode 2) t
    → drop (at + 2 + h.language.count * 2) s ≡ outside_bytes Attachments h.mode t ++ l → outside_at s h at ≡ t
unfolding outside_at
outside_is s h at t l = go (ltb h.mode 2)
  where
    go : (b : Bool) → SoundOutside b t → drop (at + 2 + h.language.count * 2) s ≡ cond b [] (bytes2 t) ++ l → cond b 0 (two_at s (at + 2 + h.language.count * 2)) ≡ t
    go true o e = sym o
    go false o e = (two_here s _ t l e).is

words_ok : (s : List ℕ) (h : Head) → Counted h → (list : Listing) (at low : ℕ) (e : ListEntry) (l : List ℕ) → SoundFor h list low e
    → drop (at + 2) s ≡ value_bytes e.values ++ (outside_bytes list h.mode e.outside ++ l) → record_words s h list at ≡ with_outside list (words (route e.values)) e.outside
words_ok s h k Arcs at low e l ok q =
    let n = sound_length (components_of h.language) e.values ok.sound ∙ k.count_is in
    ap (λ (z : ℕ). words (route (values_at s (at + 2) z))) (sym n) ∙ ap (λ (z : List ℕ). words (route z)) (values_are s e.values (at + 2) _ q)
words_ok s h k Attachments at low e l ok q =
    let n = sound_length (components_of h.language) e.values ok.sound ∙ k.count_is in
    let z : at + 2 + length (value_bytes e.values) ≡ at + 2 + h.language.count * 2 = omega (arith, length_values e.values, n) in
    let o = outside_is s h at e.outside l ok.out (rw z at (past s (value_bytes e.values) _ (at + 2) q)) in
    let v : values_at s (at + 2) h.language.count ≡ e.values = ap (values_at s (at + 2)) (sym n) ∙ values_are s e.values (at + 2) _ q in
    ap (λ (x : List ℕ). words (route x) ++ (outside_at s h at ∷ [])) v ∙ ap (λ (x : ℕ). words (route e.values) ++ (x ∷ [])) o

pub entry_here : (s : List ℕ) (h : Head) → Counted h → (list : Listing) (at low : ℕ) (e : ListEntry) (l : List ℕ) → at ≤ length s → SoundFor h list low e
    → drop at s ≡ entry_bytes list h.mode e ++ l → EntryHere s h list at low e
unfolding record_check two_at
entry_here s h c list at low e l into ok q =
    let a = here s at e.row _ q in
    let b = here s (at + 1) e.column _ a.rest in
    let z : at + 1 + 1 ≡ at + 2 = omega arith in
    let v : drop (at + 2) s ≡ value_bytes e.values ++ (outside_bytes list h.mode e.outside ++ l) =
    rw z at b.rest ∙ append_assoc (value_bytes e.values) (outside_bytes list h.mode e.outside) l in
    let n = ends_ok s h list at e.row e.column a.is b.is ok.row_in ok.column_in in
    let k : get_or s at 0 * 256 + get_or s (at + 1) 0 ≡ e.row * 256 + e.column = rw (a.is, b.is) in
    let f : values_check s (components_of h.language) (at + 2) ≡ Ok tt =
    values_pass s (components_of h.language) e.values (at + 2) (outside_bytes list h.mode e.outside ++ l) v ok.sound in
    let w = within s (entry_bytes list h.mode e) l at into q in
    record {
      passes = rw (
        le-leb (at + length_of h list) (length s) (omega (arith, w, length_entry h c list low e ok)),
        n.0,
        k,
        le-leb low (e.row * 256 + e.column) ok.after,
      ) f;
      key = k;
      row_is = n.1;
      column_is = n.2;
      words_are = words_ok s h c list at low e l ok v;
    }

-- ---- lists of entries

pub record EntriesHere (s : List ℕ) (h : Head) (list : Listing) (at low count : ℕ) (l : List ℕ) : Type 0 where
  pub passes : records_check s h list at low count ≡ Ok tt
  pub rest : drop (at + count * length_of h list) s ≡ l
  pub into : at + count * length_of h list ≤ length s

pub entries_here : (s : List ℕ) (h : Head) → Counted h → (list : Listing) (es : List ListEntry) (at low : ℕ) (l : List ℕ) → at ≤ length s → AllSound h list low es
    → drop at s ≡ entries_bytes list h.mode es ++ l → EntriesHere s h list at low (length es) l
unfolding records_check
entries_here s h c list [] at low l into ok q =
    let z : at + 0 * length_of h list ≡ at = omega arith in
    record { passes = refl; rest = rw z q; into = rw z into }
entries_here s h c list (e ∷ es) at low l into ok q =
    let q₁ : drop at s ≡ entry_bytes list h.mode e ++ (entries_bytes list h.mode es ++ l) =
    q ∙ append_assoc (entry_bytes list h.mode e) (entries_bytes list h.mode es) l in
    let a = entry_here s h c list at low e (entries_bytes list h.mode es ++ l) into ok.0 q₁ in
    let len = length_entry h c list low e ok.0 in
    let z : at + length (entry_bytes list h.mode e) ≡ at + length_of h list = ap (λ (x : ℕ). at + x) len in
    let into₁ : at + length_of h list ≤ length s = rw z at (within s (entry_bytes list h.mode e) (entries_bytes list h.mode es ++ l) at into q₁) in
    let r = entries_here s h c list es (at + length_of h list) (e.row * 256 + e.column + 1) l into₁ ok.1
    (rw z at (past s (entry_bytes list h.mode e) (entries_bytes list h.mode es ++ l) at q₁)) in
    let y : at + suc (length es) * length_of h list ≡ at + length_of h list + length es * length_of h list = omega (arith, suc-mul (length es) (length_of h list)) in
    record {
      passes = rw (a.passes, a.key) r.passes;
      rest = rw y r.rest;
      into = rw y r.into;
    }

-- a list with its count
pub list_here : (s : List ℕ) (h : Head) → Counted h → (list : Listing) (es : List ListEntry) (at : ℕ) (l : List ℕ) → AllSound h list 0 es → drop at s ≡ list_bytes list h.mode es ++ l
    → (record_list_check s h list at ≡ Ok tt) × (drop (list_end s h list at) s ≡ l) × (list_end s h list at ≤ length s)
unfolding record_list_check list_end
list_here s h c list es at l ok q =
    let b = two_here s at (length es) (entries_bytes list h.mode es ++ l) (q ∙ append_assoc (bytes2 (length es)) (entries_bytes list h.mode es) l) in
    let r = entries_here s h c list es (at + 2) 0 l b.room ok b.rest in
    (rw (le-leb (at + 2) (length s) b.room, b.is) r.passes, rw b.is r.rest, rw b.is r.into)

-- ---- the words of the table

more : (s : List ℕ) (h : Head) (list : Listing) (i j first done : ℕ)
    → listed_words s h list first (suc done) i j
    ≡ cond (is_at (ends_at s list (first + done * length_of h list)) i j) (record_words s h list (first + done * length_of h list)) (listed_words s h list first done i j)
unfolding listed_words
more s h list i j first done = refl

-- the entries so far, and those to come
pub words_here : (s : List ℕ) (h : Head) → Counted h → (list : Listing) (i j first : ℕ) (es : List ListEntry) (done low : ℕ) (l : List ℕ)
    → first + done * length_of h list ≤ length s → AllSound h list low es
    → drop (first + done * length_of h list) s ≡ entries_bytes list h.mode es ++ l
    → listed_words s h list first (done + length es) i j ≡ put list i j es (listed_words s h list first done i j)
words_here s h c list i j first [] done low l into ok q = rw add-zero
words_here s h c list i j first (e ∷ es) done low l into ok q =
    let at : ℕ = first + done * length_of h list in
    let q₁ : drop at s ≡ entry_bytes list h.mode e ++ (entries_bytes list h.mode es ++ l) =
    q ∙ append_assoc (entry_bytes list h.mode e) (entries_bytes list h.mode es) l in
    let a = entry_here s h c list at low e (entries_bytes list h.mode es ++ l) into ok.0 q₁ in
    let len = length_entry h c list low e ok.0 in
    let z : at + length (entry_bytes list h.mode e) ≡ first + suc done * length_of h list = omega (arith, len, suc-mul done (length_of h list)) in
    let into₁ : first + suc done * length_of h list ≤ length s = rw z at (within s (entry_bytes list h.mode e) (entries_bytes list h.mode es ++ l) at into q₁) in
    let r = words_here s h c list i j first es (suc done) (e.row * 256 + e.column + 1) l into₁ ok.1
    (rw z at (past s (entry_bytes list h.mode e) (entries_bytes list h.mode es ++ l) at q₁)) in
    let y : done + suc (length es) ≡ suc done + length es = omega arith in
    ap (λ (k : ℕ). listed_words s h list first k i j) y
    ∙ r
    ∙ ap (put list i j es) (step a)
  where
    step : EntryHere s h list (first + done * length_of h list) low e
        → listed_words s h list first (suc done) i j
        ≡ cond (eqb i e.row && eqb j e.column) (with_outside list (words (route e.values)) e.outside) (listed_words s h list first done i j)
    step a = more s h list i j first done ∙ rw (a.row_is, a.column_is, a.words_are)
