-- What a read leaves is well formed: the language passes its check, each arc is a weight of it with sums to 65,535, each mapping entry is empty or a route with its t in range.
use Prim.Native.Nat.{ℕ, zero, suc, ◌+◌, ◌*◌, ◌<◌}
use mathlib.Core.Path.{◌≡◌, refl, sym, ap, ◌∙◌, subst}
use mathlib.Core.Bool.{Bool, true, false, cond}
use mathlib.Core.List.{List, [], ◌∷◌, ◌++◌}
use native.Mathlib.Nat.{add-zero, zero-mul, suc-mul}
use native.Mathlib.Omega.{arith}
use borrow.Author.Tests.{leb-true}
use lib.Dec.{ltb, leb}
use lib.ListN.{length, take, drop}
use Rattle.refusals.specs.declared.Refusal.{Refusal}
use Rattle.refusals.specs.declared.Refusal.TheVariants.{Bytes as Cut, NotAscending, Length}
use Rattle.refusals.specs.Checks.{unless}
use Rattle.refusals.proofs.OneToOne.{told_not_done}
use Rattle.refusals.proofs.First.{both_pass}
use Rattle.weights.specs.declared.Component.{Component}
use Rattle.weights.specs.declared.Component.TheVariants.{Dist, Width, Class, Gain}
use Rattle.weights.specs.declared.Language.{Language}
use Rattle.weights.specs.Sizes.{arc_sum}
use Rattle.weights.specs.Weights.{none, route, ValidValues, Sound as SoundLimits}
use Rattle.weights.specs.Languages.{components_of}
use Rattle.weights.specs.Words.{words, good, reading, is_good}
use Rattle.weights.proofs.Checking.{few, count_in, limits_exact}
use Rattle.weights.specs.Written.{SumsUpTo, NotOnes}
use Rattle.weights.proofs.Readings.{reads_words, in_range_valid}
use Rattle.fields.specs.declared.Head.{Head}
use Rattle.records.specs.declared.Listing.{Listing}
use Rattle.records.specs.declared.Listing.TheVariants.{Arcs, Attachments}
use Rattle.file_bytes.specs.Bytes.{two_at}
use Rattle.records.specs.Records.{length_of, ends_at, ends_check, values_check, record_check, records_check, record_list_check, list_end, body_check}
use Rattle.files.specs.File.{file_read}
use Rattle.contents.specs.Contents.{words_each, columns, size_of, values_at, record_weight, outside_at, record_words, is_at, listed_words, listed_table, list_over}
use Rattle.files.specs.Answers.{Row, read_said, head_row, refused_row, sized, arcs_over, mapping_over, ReadSays, problem_read}
use Rattle.contents.proofs.Storing.{listed_wide}
use Rattle.files.proofs.Bodies.{checked_body}
use Rattle.encoded.specs.Encode.{SoundValues, SoundOutside}
use Rattle.encoded.specs.Taken.{AreBytes, Encoded, DoneMeans}
use Rattle.encoded.specs.WellFormed.{EntryWell, empty, attached, WellFormed}
use Rattle.encoded.proofs.Entries.{Counted}
use Rattle.encoded.proofs.TakenLanguage.{two_small}
use Rattle.encoded.proofs.TakenLists.{values_sound}
use Rattle.encoded.proofs.Taken.{decode}
use Rattle.encoded.proofs.Here.{language_has}
use Rattle.encoded.proofs.Cells.{entry_at_lem}
use Rattle.std.specs.Prelude.{Ok, Result, Err}
use Rattle.fields.specs.declared.SoundHead.{SoundHead}
use Rattle.fields.specs.Header.{sound_head}

-- ---- the values of records that pass

values_valid : (cs : List Component) (vs : List ℕ) → SoundValues cs vs → ValidValues cs vs
values_valid [] [] h = tt
values_valid [] (v ∷ vs) h = absurd h
values_valid (c ∷ cs) [] h = absurd h
values_valid (c ∷ cs) (v ∷ vs) h = (in_range_valid arc_sum c v h.0, values_valid cs vs h.1)

values_sums : (cs : List Component) (vs : List ℕ) → SoundValues cs vs → SumsUpTo arc_sum cs vs
values_sums [] vs h = tt
values_sums (c ∷ cs) [] h = absurd h
values_sums (Dist ∷ cs) (v ∷ vs) h = (leb-true v arc_sum h.0, values_sums cs vs h.1)
values_sums (Width w ∷ cs) (v ∷ vs) h = values_sums cs vs h.1
values_sums (Class k ∷ cs) (v ∷ vs) h = values_sums cs vs h.1
values_sums (Gain ∷ cs) (v ∷ vs) h = (leb-true v arc_sum h.0, values_sums cs vs h.1)

values_apart : (s : List ℕ) (at c : ℕ) → AreBytes s → NotOnes (route (values_at s at c))
values_apart s at zero by = tt
values_apart s at (suc c) by = omega (arith, two_small s at by)

-- the words of a record that passes are read as its weight
record_reads : (s : List ℕ) (h : Head) → Counted h → (at : ℕ) → AreBytes s → values_check s (components_of h.language) (at + 2) ≡ Ok tt
    → reading arc_sum (components_of h.language) (words (record_weight s h at)) ≡ good (record_weight s h at)
record_reads s h c at by e =
    let v = subst (λ (k : ℕ). SoundValues (components_of h.language) (values_at s (at + 2) k)) c.count_is (values_sound s (components_of h.language) (at + 2) e) in
    reads_words arc_sum (components_of h.language) (record_weight s h at) (few h.language) (record {
      valid = values_valid (components_of h.language) _ v;
      sums = values_sums (components_of h.language) _ v;
      apart = values_apart s (at + 2) h.language.count by;
    })

ValuesPass : List ℕ → Head → Listing → ℕ → ℕ → Type 0
ValuesPass s h list first count = (e : ℕ) → e < count → values_check s (components_of h.language) (first + e * length_of h list + 2) ≡ Ok tt

records_values : (s : List ℕ) (h : Head) (list : Listing) (count at low : ℕ) → records_check s h list at low count ≡ Ok tt → ValuesPass s h list at count
unfolding records_check record_check ValuesPass
records_values s h list zero at low f e l = absurd (omega arith)
records_values s h list (suc count) at low f zero l =
    let a = (both_pass (record_check s h list at low) _ f).0 in
    let b = (both_pass (unless (leb (at + length_of h list) (length s)) (Cut 0 at)) _ a).1 in
    let c = (both_pass (ends_check h at (ends_at s list at)) _ b).1 in
    rw (zero-mul, add-zero) (both_pass (unless (leb low (two_at s at)) (NotAscending 0 at)) _ c).1
records_values s h list (suc count) at low f (suc e) l =
    let q : at + suc e * length_of h list ≡ at + length_of h list + e * length_of h list = omega (arith, suc-mul e (length_of h list)) in
    rw q (records_values s h list count (at + length_of h list) (two_at s at + 1) (both_pass (record_check s h list at low) _ f).1 e (omega arith))

list_values : (s : List ℕ) (h : Head) (list : Listing) (at : ℕ) → record_list_check s h list at ≡ Ok tt → ValuesPass s h list (at + 2) (two_at s at)
unfolding record_list_check
list_values s h list at f = records_values s h list (two_at s at) (at + 2) 0 (both_pass (unless (leb (at + 2) (length s)) (Cut 0 at)) _ f).1

-- ---- the entries

none_reads : (cs : List Component) → is_good (reading arc_sum cs (words none)) ≡ true
unfolding words
none_reads cs = refl

arcs_read_lem : (s : List ℕ) (h : Head) → Counted h → AreBytes s → (first count i j : ℕ) → ValuesPass s h Arcs first count
    → is_good (reading arc_sum (components_of h.language) (listed_words s h Arcs first count i j)) ≡ true
unfolding listed_words ValuesPass
arcs_read_lem s h c by first zero i j ok = none_reads (components_of h.language)
arcs_read_lem s h c by first (suc count) i j ok =
    go (is_at (ends_at s Arcs (first + count * length_of h Arcs)) i j) (arcs_read_lem s h c by first count i j (λ e l. ok e (omega arith)))
  where
    go : (b : Bool) → is_good (reading arc_sum (components_of h.language) (listed_words s h Arcs first count i j)) ≡ true
        → is_good (reading arc_sum (components_of h.language) (cond b (record_words s h Arcs (first + count * length_of h Arcs)) (listed_words s h Arcs first count i j))) ≡ true
    go true r = ap is_good (record_reads s h c (first + count * length_of h Arcs) by (ok count (omega arith)))
    go false r = r

outside_fits : (s : List ℕ) (h : Head) (at : ℕ) → AreBytes s → SoundOutside (ltb h.mode 2) (outside_at s h at)
unfolding outside_at
outside_fits s h at by = go (ltb h.mode 2)
  where
    go : (b : Bool) → SoundOutside b (cond b 0 (two_at s (at + 2 + h.language.count * 2)))
    go true = refl
    go false = two_small s (at + 2 + h.language.count * 2) by

mapping_reads : (s : List ℕ) (h : Head) → Counted h → AreBytes s → (first count i j : ℕ) → ValuesPass s h Attachments first count
    → EntryWell h.mode (components_of h.language) (listed_words s h Attachments first count i j)
unfolding listed_words ValuesPass
mapping_reads s h c by first zero i j ok = empty refl
mapping_reads s h c by first (suc count) i j ok =
    go (is_at (ends_at s Attachments (first + count * length_of h Attachments)) i j) (mapping_reads s h c by first count i j (λ e l. ok e (omega arith)))
  where
    go : (b : Bool) → EntryWell h.mode (components_of h.language) (listed_words s h Attachments first count i j)
        → EntryWell h.mode (components_of h.language) (cond b (record_words s h Attachments (first + count * length_of h Attachments)) (listed_words s h Attachments first count i j))
    go true r = attached (record_weight s h (first + count * length_of h Attachments)) (outside_at s h (first + count * length_of h Attachments)) refl
        (record_reads s h c (first + count * length_of h Attachments) by (ok count (omega arith)))
        (outside_fits s h (first + count * length_of h Attachments) by)
    go false r = r

-- ---- an answer that is done

pub done_means : (s a m a' m' : List ℕ) (n k mode : ℕ) (l : Language) → ReadSays s a m a' m' (problem_read n k mode l) → DoneMeans s a m a' m' n k mode l
unfolding sized
done_means s a m a' m' n k mode l w = go (ltb (length a) 1024) (ltb (length m) 2560) (file_read s) refl w.answer w.arcs_hold w.mapping_holds
  where
    refused : {X : Type 0} (r : Refusal) → read_said (problem_read n k mode l) ≡ refused_row r → X
    refused r e = absurd (told_not_done r (sym (ap (λ (x : Row). x.told) e)))

    go : (x y : Bool) (r : Result SoundHead Refusal) → file_read s ≡ r
        → read_said (problem_read n k mode l) ≡ cond x (refused_row (Length 1 0)) (cond y (refused_row (Length 3 0)) (head_row r))
        → a' ≡ cond x a (cond y a (arcs_over s r a)) → m' ≡ cond x m (cond y m (mapping_over s r m)) → DoneMeans s a m a' m' n k mode l
    go true y r q e u v = refused (Length 1 0) e
    go false true r q e u v = refused (Length 3 0) e
    go false false (Err r) q e u v = refused r e
    go false false (Ok t) q e u v = record {
      next = t.next;
      head = t.head;
      read = q;
      n_is = sym (ap (λ (x : Row). x.n) e);
      m_is = sym (ap (λ (x : Row). x.m) e);
      mode_is = sym (ap (λ (x : Row). x.mode) e);
      language_is = sym (ap (λ (x : Row). x.language) e);
      arcs_are = u;
      mapping_is = v;
    }

-- ---- the theorem

table_entry : (s : List ℕ) (h : Head) (list : Listing) (first count i j : ℕ) (z : List ℕ) → i < h.n → j < columns h list
    → take (words_each list) (drop (i * (columns h list * words_each list) + j * words_each list) (listed_table s h list first count ++ z)) ≡ listed_words s h list first count i j
unfolding listed_table
table_entry s h list first count i j z hi hj =
    entry_at_lem (words_each list) (listed_words s h list first count) (listed_wide s h list first count) h.n (columns h list) i j z hi hj

-- what a file that passes leaves, for its own head
head_well : (s a m : List ℕ) → AreBytes s → (next : ℕ) (h : Head) → file_read s ≡ sound_head next h
    → WellFormed (list_over s h Arcs next a) (list_over s h Attachments (list_end s h Arcs next) m) h.n h.m h.mode h.language
unfolding body_check
head_well s a m by next h e =
    let d = decode s by next h e in
    let p = d.problem in
    let ok = d.sound in
    let n_is = ap (λ (x : Head). x.n) d.head in
    let m_is = ap (λ (x : Head). x.m) d.head in
    let mode_is = ap (λ (x : Head). x.mode) d.head in
    let l_is = ap (λ (x : Head). x.language) d.head in
    let has : components_of h.language ≡ p.language = ap components_of (sym l_is) ∙ language_has p.language ok.components.1 in
    let count : length p.language ≡ h.language.count = ap (λ (x : Language). x.count) l_is in
    let c : Counted h = record { count_is = ap length has ∙ count } in
    let g = both_pass (record_list_check s h Arcs next) _ (checked_body s next h e) in
    let o = both_pass (record_list_check s h Attachments (list_end s h Arcs next)) _ g.1 in
    let x = list_values s h Arcs next g.0 in
    let y = list_values s h Attachments (list_end s h Arcs next) o.0 in
    record {
      nodes = (omega (arith, ok.nodes.0, n_is), omega (arith, ok.nodes.1, n_is));
      destinations = omega (arith, ok.destinations, m_is);
      no_mode = λ q. sym mode_is ∙ ok.no_mode (m_is ∙ q);
      some_mode = λ q. let w = ok.some_mode (λ z. q (sym m_is ∙ z)) in (omega (arith, w.0, mode_is), omega (arith, w.1, mode_is));
      language_passes =
          count_in h.language (omega (arith, ok.components.0, count)) (omega (arith, ok.components.1, count))
          ∙ (limits_exact (components_of h.language)).1 (subst SoundLimits (sym has) ok.limits);
      arcs_well = λ i j hi hj. rw (table_entry s h Arcs (next + 2) (two_at s next) i j (drop (size_of h Arcs) a) hi hj) (arcs_read_lem s h c by (next + 2) (two_at s next) i j x);
      mapping_well = λ i j hi hj.
          rw (table_entry s h Attachments (list_end s h Arcs next + 2) (two_at s (list_end s h Arcs next)) i j (drop (size_of h Attachments) m) hi hj)
          (mapping_reads s h c by (list_end s h Arcs next + 2) (two_at s (list_end s h Arcs next)) i j y);
    }

-- After a read that is done, what the calls are given is well formed.
pub read_well : (s a m a' m' : List ℕ) (n k mode : ℕ) (l : Language) → AreBytes s → ReadSays s a m a' m' (problem_read n k mode l) → WellFormed a' m' n k mode l
read_well s a m a' m' n k mode l by w =
    let d = done_means s a m a' m' n k mode l w in
    subst (λ (x : List ℕ). WellFormed x m' n k mode l) (sym d.arcs_are)
    (subst (λ (x : List ℕ). WellFormed (list_over s d.head Arcs d.next a) x n k mode l) (sym d.mapping_is)
    (subst (WellFormed (list_over s d.head Arcs d.next a) (list_over s d.head Attachments (list_end s d.head Arcs d.next) m) n k mode) d.language_is
    (subst (λ (x : ℕ). WellFormed (list_over s d.head Arcs d.next a) (list_over s d.head Attachments (list_end s d.head Arcs d.next) m) n k x d.head.language) d.mode_is
    (subst (λ (x : ℕ). WellFormed (list_over s d.head Arcs d.next a) (list_over s d.head Attachments (list_end s d.head Arcs d.next) m) n x d.head.mode d.head.language) d.m_is
    (subst (λ (x : ℕ). WellFormed (list_over s d.head Arcs d.next a) (list_over s d.head Attachments (list_end s d.head Arcs d.next) m) x d.head.m d.head.mode d.head.language) d.n_is
    (head_well s a m by d.next d.head d.read))))))

-- Whatever is read without refusal is the file of a sound problem, under some nesting of its products: the one that is given back.
pub read_encoded : (s a m a' m' : List ℕ) (n k mode : ℕ) (l : Language) → AreBytes s → ReadSays s a m a' m' (problem_read n k mode l)
    → Encoded s (record { n = n; m = k; mode = mode; language = l })
read_encoded s a m a' m' n k mode l by w =
    let d = done_means s a m a' m' n k mode l w in
    let same : d.head ≡ record { n = n; m = k; mode = mode; language = l } = λ i. record { n = d.n_is i; m = d.m_is i; mode = d.mode_is i; language = d.language_is i } in
    subst (Encoded s) same (decode s by d.next d.head d.read)
