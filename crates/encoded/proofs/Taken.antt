-- The reader takes exactly the files of sound problems: whatever it takes is an encoding, for some nesting.
use Prim.Native.Nat.{ℕ, suc, ◌+◌, ◌-◌, ◌*◌, ◌/◌, ◌%◌, ◌≤◌, ◌<◌}
use mathlib.Core.Path.{◌≡◌, refl, sym, ap, ◌∙◌, subst}
use mathlib.Core.List.{List, [], ◌∷◌, ◌++◌, append_assoc, append-nil}
use mathlib.Core.Bool.{Bool, true, false, cond, and-eq-true_iff}
use native.Mathlib.Omega.{arith}
use borrow.Author.Tests.{eqb-true, eq-eqb, ne_eqb, leb-true}
use lib.Dec.{leb, eqb}
use lib.ListN.{length, get_or, drop, length-drop, drop_of_length-le}
use Rattle.refusals.specs.declared.Refusal.{Refusal}
use Rattle.refusals.specs.declared.Refusal.TheVariants.{Bytes as Cut, Version, Size}
use Rattle.refusals.proofs.First.{unless_passes, both_pass}
use Rattle.weights.specs.declared.Component.{Component}
use Rattle.weights.specs.declared.Language.{Language}
use Rattle.weights.specs.Sizes.{places, product_tags}
use Rattle.weights.specs.Languages.{components_of}
use Rattle.fields.specs.declared.Found.{Found}
use Rattle.fields.specs.declared.Head.{Head}
use Rattle.records.specs.declared.Listing.TheVariants.{Arcs, Attachments}
use Rattle.file_bytes.specs.Bytes.{two_at, four_at}
use Rattle.fields.specs.Nested.{nothing, language_at, taken}
use Rattle.fields.specs.Header.{field_check, mode_field_check, fields_check, head_from, head_read, sound_head}
use Rattle.records.specs.Records.{record_list_check, list_end, body_check}
use Rattle.files.specs.File.{count_right, head_once_checked, with_body, file_read}
use Rattle.fields.proofs.Passing.{field_passes}
use Rattle.files.proofs.Bodies.{checked_body, never_sound}
use Rattle.encoded.specs.Encode.{Problem, SoundEntries, Nesting, nested, bytes2, language_bytes, list_bytes, body_bytes, encode, language_with}
use Rattle.encoded.specs.Taken.{AreBytes, Encoded}
use Rattle.encoded.proofs.Here.{found_language, language_has, one_more_component}
use Rattle.encoded.proofs.Entries.{Counted}
use Rattle.encoded.proofs.TakenLanguage.{one_more, two_more, two_small, language_of_lem}
use Rattle.encoded.proofs.TakenLists.{list_of}
use Rattle.refusals.specs.Checks.{Check}
use Rattle.std.specs.Prelude.{Ok, Err, Result}
use Rattle.fields.specs.declared.Taken.{Taken}
use Rattle.fields.specs.declared.SoundHead.{SoundHead}

-- ---- the head

pub record HeadAt (s : List ℕ) (next : ℕ) (h : Head) : Type 0 where
  pub fields : fields_check s ≡ Ok tt
  pub found : Found
  pub taken : language_at s 8 nothing ≡ taken next found
  pub n_is : get_or s 5 0 ≡ h.n
  pub m_is : get_or s 6 0 ≡ h.m
  pub mode_is : get_or s 7 0 ≡ h.mode
  pub language_is : found.language ≡ h.language

pub head_at : (s : List ℕ) (next : ℕ) (h : Head) → head_read s ≡ sound_head next h → HeadAt s next h
unfolding head_read
head_at s next h e = go (fields_check s) (language_at s 8 nothing) refl refl e
  where
    go : (c : Check) (r : Result Taken Refusal) → fields_check s ≡ c → language_at s 8 nothing ≡ r → head_from c s r ≡ sound_head next h → HeadAt s next h
    go (Err q) r f l e = never_sound e
    go (Ok _) (Err q) f l e = never_sound e
    go (Ok tt) (Ok t) f l e =
        let read : SoundHead = record { next = t.next; head = record { n = get_or s 5 0; m = get_or s 6 0; mode = get_or s 7 0; language = t.found.language } } in
        let same : read ≡ record { next = next; head = h } = cc in
        record {
          fields = f;
          found = t.found;
          taken = l ∙ ap (λ (x : SoundHead). taken x.next t.found) same;
          n_is = ap (λ (x : SoundHead). x.head.n) same;
          m_is = ap (λ (x : SoundHead). x.head.m) same;
          mode_is = ap (λ (x : SoundHead). x.head.mode) same;
          language_is = ap (λ (x : SoundHead). x.head.language) same;
        }

pub counted_head : (s : List ℕ) (next : ℕ) (h : Head) → file_read s ≡ sound_head next h → (count_right s ≡ true) × (head_read s ≡ sound_head next h)
unfolding file_read
counted_head s next h e = go (count_right s) (head_read s) refl refl e
  where
    body : (t : SoundHead) (c : Check) → head_once_checked t.next t.head c ≡ sound_head next h → Ok t ≡ sound_head next h
    body t (Ok _) e = e
    body t (Err r) e = never_sound e

    go : (b : Bool) (x : Result SoundHead Refusal) → count_right s ≡ b → head_read s ≡ x → cond b (with_body s x) (Err (Cut 0 0)) ≡ sound_head next h → (count_right s ≡ true) × (head_read s ≡ sound_head next h)
    go false x f g e = never_sound e
    go true (Err r) f g e = never_sound e
    go true (Ok t) f g e = (f, g ∙ body t (body_check s t.head t.next) e)

-- ---- the bytes before the language

pub record Fields (s : List ℕ) : Type 0 where
  pub version : get_or s 4 0 ≡ 1
  pub nodes : (1 ≤ get_or s 5 0) × (get_or s 5 0 ≤ 16)
  pub destinations : get_or s 6 0 ≤ 32
  pub room : 7 < length s
  pub no_mode : get_or s 6 0 ≡ 0 → get_or s 7 0 ≡ 0
  pub some_mode : (get_or s 6 0 ≡ 0 → ⊥) → (1 ≤ get_or s 7 0) × (get_or s 7 0 ≤ 3)

abbrev bad_mode : Refusal
bad_mode = Size 0 7

mode_room : (s : List ℕ) (b : Bool) → cond b (field_check s 7 bad_mode 0 0) (field_check s 7 bad_mode 1 3) ≡ Ok tt → 7 < length s
mode_room s true e = (field_passes s 7 bad_mode 0 0 e).0
mode_room s false e = (field_passes s 7 bad_mode 1 3 e).0

pub fields_at : (s : List ℕ) → fields_check s ≡ Ok tt → Fields s
unfolding fields_check
fields_at s e =
    let a = both_pass (field_check s 4 (Version 0 4) 1 1) _ e in
    let b = both_pass (field_check s 5 (Size 0 5) 1 16) _ a.1 in
    let c = both_pass (field_check s 6 (Size 0 6) 0 32) (mode_field_check s) b.1 in
    let v = field_passes s 4 (Version 0 4) 1 1 a.0 in
    let n = field_passes s 5 (Size 0 5) 1 16 b.0 in
    let m = field_passes s 6 (Size 0 6) 0 32 c.0 in
    let z : mode_field_check s ≡ Ok tt = c.1 in
    record {
      version = omega (arith, v.1, v.2);
      nodes = (n.1, n.2);
      destinations = m.2;
      room = mode_room s (eqb (get_or s 6 0) 0) z;
      no_mode = λ q. let f = field_passes s 7 bad_mode 0 0 (rw (eq-eqb (get_or s 6 0) 0 q) at z) in omega (arith, f.2);
      some_mode = λ q. let f = field_passes s 7 bad_mode 1 3 (rw (ne_eqb (get_or s 6 0) 0 q) at z) in (f.1, f.2);
    }

-- ---- the whole file

front : (s : List ℕ) (p : Problem) (t : Nesting) → AreBytes s → count_right s ≡ true → drop 4 s ≡ body_bytes p t → s ≡ encode p t
unfolding encode
front s p t by c b =
    let f = (and-eq-true_iff (leb 4 (length s)) (eqb (four_at s 0) (length s - 4))).0 c in
    let room : 4 ≤ length s = leb-true 4 (length s) f.0 in
    let long : length (body_bytes p t) ≡ two_at s 0 * 65536 + two_at s 2 = sym (ap length b) ∙ length-drop 4 s ∙ sym (eqb-true (four_at s 0) (length s - 4) f.1) in
    let hi : length (body_bytes p t) / 65536 ≡ two_at s 0 = omega (arith, long, two_small s 2 by) in
    let lo : length (body_bytes p t) % 65536 ≡ two_at s 2 = omega (arith, long, two_small s 2 by) in
    let q : s ≡ bytes2 (two_at s 0) ++ (bytes2 (two_at s 2) ++ body_bytes p t) =
    two_more s 0 by (omega arith) ∙ ap (λ (l : List ℕ). bytes2 (two_at s 0) ++ l) (two_more s 2 by (omega arith) ∙ ap (λ (l : List ℕ). bytes2 (two_at s 2) ++ l) b) in
    sym
    (append_assoc (bytes2 (length (body_bytes p t) / 65536)) (bytes2 (length (body_bytes p t) % 65536)) (body_bytes p t)
    ∙ ap (λ (z : ℕ). bytes2 z ++ (bytes2 (length (body_bytes p t) % 65536) ++ body_bytes p t)) hi
    ∙ ap (λ (z : ℕ). bytes2 (two_at s 0) ++ (bytes2 z ++ body_bytes p t)) lo
    ∙ sym q)

four_more : (s : List ℕ) → 7 < length s → drop 4 s ≡ get_or s 4 0 ∷ get_or s 5 0 ∷ get_or s 6 0 ∷ get_or s 7 0 ∷ drop 8 s
four_more s r =
    one_more s 4 (omega arith)
    ∙ ap (λ (l : List ℕ). get_or s 4 0 ∷ l)
    (one_more s 5 (omega arith)
    ∙ ap (λ (l : List ℕ). get_or s 5 0 ∷ l) (one_more s 6 (omega arith) ∙ ap (λ (l : List ℕ). get_or s 6 0 ∷ l) (one_more s 7 (omega arith))))

-- Whatever is read without refusal is an encoding of a sound problem.
pub decode : (s : List ℕ) → AreBytes s → (next : ℕ) (h : Head) → file_read s ≡ sound_head next h → Encoded s h
unfolding body_check
decode s by next h e =
    let c = counted_head s next h e in
    let d = head_at s next h c.1 in
    let f = fields_at s d.fields in
    let t = language_of_lem (suc product_tags) s 8 nothing next d.found by (omega arith) d.taken in
    let cs : List Component = nested t.nesting in
    let few : length (nested t.nesting) ≤ places = omega (arith, one_more_component t.nesting, t.few) in
    let same : language_with (nested t.nesting) ≡ h.language =
    sym (found_language t.nesting few) ∙ ap (λ (z : Found). z.language) t.found ∙ d.language_is in
    let has : components_of h.language ≡ nested t.nesting = ap components_of (sym same) ∙ language_has (nested t.nesting) few in
    let k : Counted h = record { count_is = ap length has ∙ ap (λ (z : Language). z.count) same } in
    let g = both_pass (record_list_check s h Arcs next) _ (checked_body s next h e) in
    let o = both_pass (record_list_check s h Attachments (list_end s h Arcs next)) _ g.1 in
    let x = list_of s h k Arcs next by g.0 in
    let y = list_of s h k Attachments (list_end s h Arcs next) by o.0 in
    let over : drop (list_end s h Attachments (list_end s h Arcs next)) s ≡ [] =
    drop_of_length-le s (leb-true (length s) (list_end s h Attachments (list_end s h Arcs next)) (unless_passes _ (Cut 0 (list_end s h Attachments (list_end s h Arcs next))) o.1)) in
    let p : Problem = record { n = h.n; m = h.m; mode = h.mode; language = nested t.nesting; arcs = x.entries; attachments = y.entries } in
    let body : drop 8 s ≡ language_bytes t.nesting ++ (list_bytes Arcs h.mode x.entries ++ list_bytes Attachments h.mode y.entries) =
    t.bytes
    ∙ ap (λ (l : List ℕ). language_bytes t.nesting ++ l)
    (x.bytes
    ∙ ap (λ (l : List ℕ). list_bytes Arcs h.mode x.entries ++ l)
    (y.bytes ∙ ap (λ (l : List ℕ). list_bytes Attachments h.mode y.entries ++ l) over ∙ append-nil (list_bytes Attachments h.mode y.entries))) in
    let all : drop 4 s ≡ body_bytes p t.nesting = four_more s f.room ∙ rw (f.version, d.n_is, d.m_is, d.mode_is, body) in
    record {
      problem = p;
      sound = record {
        nodes = (omega (arith, f.nodes.0, d.n_is), omega (arith, f.nodes.1, d.n_is));
        destinations = omega (arith, f.destinations, d.m_is);
        no_mode = λ q. sym d.mode_is ∙ f.no_mode (d.m_is ∙ q);
        some_mode = λ q. let w = f.some_mode (λ z. q (sym d.m_is ∙ z)) in (omega (arith, w.0, d.mode_is), omega (arith, w.1, d.mode_is));
        components = (omega (arith, one_more_component t.nesting), few);
        limits = t.limits;
        small = t.small;
        arcs_sound = subst (λ (cs : List Component). SoundEntries h.n h.n h.mode cs Arcs 0 x.entries) has x.sound;
        attachments_sound = subst (λ (cs : List Component). SoundEntries h.n h.m h.mode cs Attachments 0 y.entries) has y.sound;
      };
      nesting = t.nesting;
      nests = refl;
      bytes = front s p t.nesting by c.0 all;
      head = ap (λ (z : Language). record { n = h.n; m = h.m; mode = h.mode; language = z }) same;
    }
