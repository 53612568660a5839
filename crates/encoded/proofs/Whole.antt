-- The reader gives an encoded problem back: its numbers, its language, its arcs and its mapping.
use Prim.Native.Nat.{ℕ, ◌+◌, ◌-◌, ◌*◌, ◌/◌, ◌%◌, ◌≤◌, ◌<◌}
use mathlib.Core.Path.{◌≡◌, refl, sym, ap, ◌∙◌, subst}
use mathlib.Core.List.{List, [], ◌++◌, append_assoc, append-nil}
use mathlib.Core.Bool.{Bool, true, false, cond}
use native.Mathlib.Nat.{div-add-mod', zero-add, zero-mul}
use native.Mathlib.Omega.{arith}
use borrow.Author.Tests.{eq-eqb, le-leb, lt-ltb, le-ltb, eqb-true, eqb-false}
use lib.Dec.{eqb}
use lib.ListN.{length, get_or, drop, length-drop}
use Rattle.refusals.specs.declared.Refusal.{Refusal}
use Rattle.refusals.specs.declared.Refusal.TheVariants.{Version, Size}
use Rattle.weights.specs.declared.Component.{Component}
use Rattle.weights.specs.Sizes.{places}
use Rattle.fields.specs.declared.Head.{Head}
use Rattle.records.specs.declared.Listing.{Listing}
use Rattle.records.specs.declared.Listing.TheVariants.{Arcs, Attachments}
use Rattle.file_bytes.specs.Bytes.{two_at, four_at}
use Rattle.fields.specs.Nested.{nothing}
use Rattle.fields.specs.Header.{field_check, mode_field_check, fields_check, head_read, sound_head}
use Rattle.records.specs.Records.{length_of, list_end, body_check}
use Rattle.files.specs.File.{count_right, file_read}
use Rattle.contents.specs.Contents.{columns, size_of, unlisted, listed_words, listed_table}
use Rattle.files.specs.Answers.{sized, ReadSays, problem_read}
use Rattle.matrices.proofs.Blocks.{blocks_cong}
use Rattle.files.proofs.Answering.{answer_one}
use Rattle.encoded.specs.Encode.{ListEntry, Problem, SoundEntries, SoundProblem, Nesting, nested, bytes2, language_bytes, entries_bytes, list_bytes, body_bytes, encode, language_with, head_of, put, encoded_table}
use Rattle.encoded.specs.Taken.{found_after, next_of, GivenBack}
use Rattle.encoded.proofs.Here.{here, past, two_here, language_here, found_language, language_has, one_more_component}
use Rattle.encoded.proofs.Entries.{AllSound, Counted, list_here, words_here}
use Rattle.std.specs.Prelude.{Ok, Result}
use Rattle.files.specs.declared.Problem.{Problem as ReadProblem}

field_ok : (s : List ℕ) (at : ℕ) (r : Refusal) (lo hi v : ℕ) → at < length s → get_or s at 0 ≡ v → lo ≤ v → v ≤ hi → field_check s at r lo hi ≡ Ok tt
unfolding field_check
field_ok s at r lo hi v in_file e l h = rw (lt-ltb at (length s) in_file, e, le-leb lo v l, le-leb v hi h)

none_listed : (s : List ℕ) (h : Head) (list : Listing) (first i j : ℕ) → listed_words s h list first 0 i j ≡ unlisted list
unfolding listed_words
none_listed s h list first i j = refl

-- the table of a list that stands at an offset
table_here : (s : List ℕ) (h : Head) → Counted h → (list : Listing) (es : List ListEntry) (at : ℕ) (l : List ℕ) → AllSound h list 0 es → drop at s ≡ list_bytes list h.mode es ++ l
    → listed_table s h list (at + 2) (two_at s at) ≡ encoded_table h list es
unfolding listed_table encoded_table
table_here s h c list es at l ok q =
    let b = two_here s at (length es) (entries_bytes list h.mode es ++ l) (q ∙ append_assoc (bytes2 (length es)) (entries_bytes list h.mode es) l) in
    rw b.is
    (blocks_cong _ _ h.n (λ i _. blocks_cong _ _ (columns h list) (λ j _. cell i j b.room b.rest)))
  where
    none : (i j : ℕ) → listed_words s h list (at + 2) 0 i j ≡ unlisted list
    none i j = none_listed s h list (at + 2) i j

    cell : (i j : ℕ) → at + 2 ≤ length s → drop (at + 2) s ≡ entries_bytes list h.mode es ++ l
        → listed_words s h list (at + 2) (length es) i j ≡ put list i j es (unlisted list)
    cell i j room rest =
        let z : at + 2 ≡ at + 2 + 0 * length_of h list = omega (arith, zero-mul (length_of h list)) in
        ap (λ (k : ℕ). listed_words s h list (at + 2) k i j) (sym (zero-add (length es)))
        ∙ words_here s h c list i j (at + 2) es 0 0 l (rw z at room) ok (rw z at rest)
        ∙ ap (put list i j es) (none i j)

mode_ok : (p : Problem) → SoundProblem p → (s : List ℕ) → get_or s 6 0 ≡ p.m → get_or s 7 0 ≡ p.mode → 7 < length s → mode_field_check s ≡ Ok tt
mode_ok p ok s em eo r = rw em (go (eqb p.m 0) refl)
  where
    go : (b : Bool) → eqb p.m 0 ≡ b → cond b (field_check s 7 (Size 0 7) 0 0) (field_check s 7 (Size 0 7) 1 3) ≡ Ok tt
    go true e = field_ok s 7 (Size 0 7) 0 0 p.mode r eo (omega arith) (omega (arith, ok.no_mode (eqb-true p.m 0 e)))
    go false e = let m = ok.some_mode (eqb-false p.m 0 e) in field_ok s 7 (Size 0 7) 1 3 p.mode r eo m.0 m.1

record Opened (s : List ℕ) (p : Problem) (t : Nesting) : Type 0 where
  pub count_ok : count_right s ≡ true
  pub head_ok : head_read s ≡ sound_head (next_of t) (head_of p)
  pub lists_at : drop (next_of t) s ≡ list_bytes Arcs p.mode p.arcs ++ (list_bytes Attachments p.mode p.attachments ++ [])

opened : (p : Problem) → SoundProblem p → (t : Nesting) → nested t ≡ p.language → (s : List ℕ) → s ≡ encode p t → Opened s p t
unfolding encode head_read fields_check
opened p ok t nests s e =
    let body : List ℕ = body_bytes p t in
    let rest : List ℕ = list_bytes Arcs p.mode p.arcs ++ list_bytes Attachments p.mode p.attachments in
    let a = two_here s 0 (length (body_bytes p t) / 65536) (bytes2 (length (body_bytes p t) % 65536) ++ body_bytes p t)
    (e ∙ append_assoc (bytes2 (length (body_bytes p t) / 65536)) (bytes2 (length (body_bytes p t) % 65536)) (body_bytes p t)) in
    let b = two_here s 2 (length (body_bytes p t) % 65536) (body_bytes p t) a.rest in
    let v = here s 4 1 _ b.rest in
    let n = here s 5 p.n _ v.rest in
    let m = here s 6 p.m _ n.rest in
    let o = here s 7 p.mode (language_bytes t ++ rest) m.rest in
    let long : length s - 4 ≡ length (body_bytes p t) = sym (length-drop 4 s) ∙ ap length b.rest in
    let four : four_at s 0 ≡ length (body_bytes p t) = rw (a.is, b.is) (div-add-mod' (length (body_bytes p t)) 65536) in
    let f₁ = field_ok s 4 (Version 0 4) 1 1 1 v.room v.is (omega arith) (omega arith) in
    let f₂ = field_ok s 5 (Size 0 5) 1 16 p.n n.room n.is ok.nodes.0 ok.nodes.1 in
    let f₃ = field_ok s 6 (Size 0 6) 0 32 p.m m.room m.is (omega arith) ok.destinations in
    let f₄ = mode_ok p ok s m.is o.is o.room in
    let few : length (nested t) ≤ places = rw nests ok.components.1 in
    let x = language_here t s 8 nothing rest (rw nests ok.limits) (omega (arith, one_more_component t, few)) o.rest in
    let y : (found_after nothing t).language ≡ language_with p.language = found_language t few ∙ ap language_with nests in
    record {
      count_ok = rw (le-leb 4 (length s) b.room, eq-eqb (four_at s 0) (length s - 4) (four ∙ sym long));
      head_ok = rw (f₁, f₂, f₃, f₄, x, n.is, m.is, o.is, y);
      lists_at =
          past s (language_bytes t) rest 8 o.rest
          ∙ ap (λ (z : List ℕ). list_bytes Arcs p.mode p.arcs ++ z) (sym (append-nil (list_bytes Attachments p.mode p.attachments)));
    }

-- ---- the theorem

pub given_back : (p : Problem) → SoundProblem p → (t : Nesting) → nested t ≡ p.language → (s : List ℕ) → s ≡ encode p t → GivenBack p t s
unfolding file_read body_check
given_back p ok t nests s e =
    let o = opened p ok t nests s e in
    let h = head_of p in
    let has = language_has p.language ok.components.1 in
    let c : Counted h = record { count_is = ap length has } in
    let arcs = subst (λ (cs : List Component). SoundEntries p.n p.n p.mode cs Arcs 0 p.arcs) (sym has) ok.arcs_sound in
    let attachments = subst (λ (cs : List Component). SoundEntries p.n p.m p.mode cs Attachments 0 p.attachments) (sym has) ok.attachments_sound in
    let x = list_here s h c Arcs p.arcs (next_of t) _ arcs o.lists_at in
    let y = list_here s h c Attachments p.attachments (list_end s h Arcs (next_of t)) [] attachments x.1 in
    let z : length s ≤ list_end s h Attachments (list_end s h Arcs (next_of t)) =
    omega (arith, sym (length-drop (list_end s h Attachments (list_end s h Arcs (next_of t))) s) ∙ ap length y.1) in
    record {
      checked = rw (o.count_ok, o.head_ok, x.0, y.0, le-leb (length s) (list_end s h Attachments (list_end s h Arcs (next_of t))) z);
      arcs_are = table_here s h c Arcs p.arcs (next_of t) _ arcs o.lists_at;
      mapping_is = table_here s h c Attachments p.attachments (list_end s h Arcs (next_of t)) [] attachments x.1;
    }

-- Reading the file of a sound problem, under any nesting, gives the problem back.
pub read_encode : (p : Problem) → SoundProblem p → (t : Nesting) → nested t ≡ p.language → (a m a' m' : List ℕ) (r : Result ReadProblem Refusal) → 1024 ≤ length a → 2560 ≤ length m
    → ReadSays (encode p t) a m a' m' r
    → (r ≡ problem_read p.n p.m p.mode (language_with p.language))
    × (a' ≡ encoded_table (head_of p) Arcs p.arcs ++ drop (size_of (head_of p) Arcs) a)
    × (m' ≡ encoded_table (head_of p) Attachments p.attachments ++ drop (size_of (head_of p) Attachments) m)
unfolding sized
read_encode p ok t nests a m a' m' r ha hm w =
    let g = given_back p ok t nests (encode p t) refl in
    let la = le-ltb (length a) 1024 ha in
    let lm = le-ltb (length m) 2560 hm in (
      answer_one r (problem_read p.n p.m p.mode (language_with p.language)) (w.answer ∙ rw (la, lm, g.checked)),
      w.arcs_hold ∙ rw (la, lm, g.checked, g.arcs_are),
      w.mapping_holds ∙ rw (la, lm, g.checked, g.mapping_is),
    )
