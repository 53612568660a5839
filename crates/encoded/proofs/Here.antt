-- What stands at an offset of a file, and reading a language there.
use Prim.Native.Nat.{ℕ, suc, ◌+◌, ◌/◌, ◌%◌, ◌≤◌, ◌<◌}
use mathlib.Core.Path.{◌≡◌, refl, sym, ap, ◌∙◌}
use mathlib.Core.List.{List, [], ◌∷◌, ◌++◌, append_assoc}
use native.Mathlib.Nat.{div-add-mod', add-zero}
use native.Mathlib.Omega.{arith}
use borrow.Author.Tests.{ne_eqb, lt-leb}
use lib.ListN.{length, get_or, drop, length-drop, length-append}
use lib.Seq.{drop-drop, get_or-drop, drop-append_seam}
use Rattle.weights.specs.declared.Component.{Component}
use Rattle.weights.specs.declared.Component.TheVariants.{Dist, Width, Class, Gain}
use Rattle.weights.specs.declared.Language.{Language}
use Rattle.weights.specs.Sizes.{places, product_tags}
use Rattle.weights.specs.Weights.{Sound, SoundLimit}
use Rattle.weights.specs.Languages.{components_of}
use Rattle.fields.specs.declared.Found.{Found}
use Rattle.file_bytes.specs.Bytes.{two_at}
use Rattle.fields.specs.Nested.{no_language, added, nothing, with_component, with_tag, dist_tag, width_tag, class_tag, gain_tag, product_tag, component_read, after, language_at, taken}
use Rattle.fields.proofs.Advancing.{read_product, read_component}
use Rattle.encoded.specs.Encode.{Nesting, one, product, nested, bytes2, component_bytes, language_bytes, language_with}
use Rattle.encoded.specs.Taken.{found_after}
use Rattle.std.specs.Prelude.{Result}
use Rattle.fields.specs.declared.Taken.{Taken}
use Rattle.refusals.specs.declared.Refusal.{Refusal}

pub record Here (s : List ℕ) (at x : ℕ) (l : List ℕ) : Type 0 where
  pub is : get_or s at 0 ≡ x
  pub room : at < length s
  pub rest : drop (at + 1) s ≡ l

pub here : (s : List ℕ) (at x : ℕ) (l : List ℕ) → drop at s ≡ x ∷ l → Here s at x l
here s at x l e = record {
  is = ap (λ (k : ℕ). get_or s k 0) (sym (add-zero at)) ∙ sym (get_or-drop at s 0 0) ∙ ap (λ (z : List ℕ). get_or z 0 0) e;
  room = omega (arith, sym (length-drop at s) ∙ ap length e);
  rest = sym (drop-drop 1 at s) ∙ ap (drop 1) e;
}

pub past : (s xs l : List ℕ) (at : ℕ) → drop at s ≡ xs ++ l → drop (at + length xs) s ≡ l
past s xs l at e = sym (drop-drop (length xs) at s) ∙ ap (drop (length xs)) e ∙ drop-append_seam xs l

pub within : (s xs l : List ℕ) (at : ℕ) → at ≤ length s → drop at s ≡ xs ++ l → at + length xs ≤ length s
within s xs l at h e = omega (arith, h, sym (length-drop at s) ∙ ap length e ∙ length-append xs l)

pub record Two (s : List ℕ) (at v : ℕ) (l : List ℕ) : Type 0 where
  pub is : two_at s at ≡ v
  pub room : at + 2 ≤ length s
  pub rest : drop (at + 2) s ≡ l

pub two_here : (s : List ℕ) (at v : ℕ) (l : List ℕ) → drop at s ≡ bytes2 v ++ l → Two s at v l
unfolding bytes2 two_at
two_here s at v l e =
    let a = here s at (v / 256) (v % 256 ∷ l) e in
    let b = here s (at + 1) (v % 256) l a.rest in
    let q : at + 1 + 1 ≡ at + 2 = omega arith in
    record {
      is = rw (a.is, b.is) (div-add-mod' v 256);
      room = omega (arith, b.room);
      rest = rw q at b.rest;
    }

-- ---- a component, a language

pub component_here : (s : List ℕ) (at : ℕ) (f : Found) (c : Component) (l : List ℕ) → SoundLimit c → drop at s ≡ component_bytes c ++ l
    → (component_read s at f ≡ taken (at + length (component_bytes c)) (with_component f c)) × (at < length s) × (get_or s at 0 ≡ product_tag → ⊥)
unfolding component_read bytes2
component_here s at f Dist l ok e = let a = here s at dist_tag l e in (rw a.is, a.room, λ z. omega (arith, a.is, z))
component_here s at f Gain l ok e = let a = here s at gain_tag l e in (rw a.is, a.room, λ z. omega (arith, a.is, z))
component_here s at f (Width w) l ok e =
    let a = here s at width_tag _ e in
    let b = two_here s (at + 1) w l a.rest in
    (rw (a.is, lt-leb (length s) (at + 2) (omega (arith, b.room)), b.is, ne_eqb w 0 (λ z. omega arith)), a.room, λ z. omega (arith, a.is, z))
component_here s at f (Class w) l ok e =
    let a = here s at class_tag _ e in
    let b = two_here s (at + 1) w l a.rest in
    (rw (a.is, lt-leb (length s) (at + 2) (omega (arith, b.room)), b.is), a.room, λ z. omega (arith, a.is, z))

-- the products of a nesting
abbrev pub products : Nesting → ℕ
products (one c) = 0
products (product x y) = suc (products x + products y)

pub found_tags : (t : Nesting) (f : Found) → (found_after f t).tags ≡ f.tags + products t
found_tags (one c) f = sym (add-zero f.tags)
found_tags (product x y) f = found_tags y (found_after (with_tag f) x) ∙ ap (λ (z : ℕ). z + products y) (found_tags x (with_tag f)) ∙ omega arith

sound_left : (xs ys : List Component) → Sound (xs ++ ys) → Sound xs × Sound ys
sound_left [] ys h = (tt, h)
sound_left (x ∷ xs) ys h = let r = sound_left xs ys h.1 in ((h.0, r.0), r.1)

-- a language is read as it is nested
pub language_here : (t : Nesting) (s : List ℕ) (at : ℕ) (f : Found) (l : List ℕ) → Sound (nested t) → f.tags + products t ≤ product_tags → drop at s ≡ language_bytes t ++ l
    → language_at s at f ≡ taken (at + length (language_bytes t)) (found_after f t)
language_here (one c) s at f l ok few e =
    let a = component_here s at f c l ok.0 e in
    read_component s at f a.1 a.2 ∙ a.0
language_here (product x y) s at f l ok few e =
    let o = sound_left (nested x) (nested y) ok in
    let a = here s at product_tag _ e in
    let r : drop (at + 1) s ≡ language_bytes x ++ (language_bytes y ++ l) = a.rest ∙ append_assoc (language_bytes x) (language_bytes y) l in
    let left : language_at s (at + 1) (with_tag f) ≡ taken (at + 1 + length (language_bytes x)) (found_after (with_tag f) x) =
    language_here x s (at + 1) (with_tag f) (language_bytes y ++ l) o.0 (omega arith) r in
    let right = language_here y s (at + 1 + length (language_bytes x)) (found_after (with_tag f) x) l o.1 (omega (arith, found_tags x (with_tag f)))
    (past s (language_bytes x) (language_bytes y ++ l) (at + 1) r) in
    let q : at + 1 + length (language_bytes x) + length (language_bytes y) ≡ at + suc (length (language_bytes x ++ language_bytes y)) = omega (arith, length-append (language_bytes x) (language_bytes y)) in
    read_product s at f a.room a.is (omega arith)
    ∙ ap (λ (z : Result Taken Refusal). after z (language_at s)) left
    ∙ right
    ∙ ap (λ (z : ℕ). taken z (found_after (found_after (with_tag f) x) y)) q

-- ---- how products are nested makes no difference to the language

adds : Language → List Component → Language
adds l [] = l
adds l (c ∷ cs) = adds (added l c) cs

adds_append : (l : Language) (xs ys : List Component) → adds l (xs ++ ys) ≡ adds (adds l xs) ys
unfolding adds
adds_append l [] ys = refl
adds_append l (x ∷ xs) ys = adds_append (added l x) xs ys

found_adds : (t : Nesting) (f : Found) → (found_after f t).language ≡ adds f.language (nested t)
unfolding adds
found_adds (one c) f = refl
found_adds (product x y) f =
    found_adds y (found_after (with_tag f) x)
    ∙ ap (λ (z : Language). adds z (nested y)) (found_adds x (with_tag f))
    ∙ sym (adds_append f.language (nested x) (nested y))

adds_are : (cs : List Component) → length cs ≤ places → adds no_language cs ≡ language_with cs
unfolding adds added
adds_are [] h = refl
adds_are (a ∷ []) h = refl
adds_are (a ∷ b ∷ []) h = refl
adds_are (a ∷ b ∷ c ∷ []) h = refl
adds_are (a ∷ b ∷ c ∷ d ∷ []) h = refl
adds_are (a ∷ b ∷ c ∷ d ∷ e ∷ cs) h = absurd (omega arith)

pub found_language : (t : Nesting) → length (nested t) ≤ places → (found_after nothing t).language ≡ language_with (nested t)
found_language t h = found_adds t nothing ∙ adds_are (nested t) h

-- the language of a list has the list's components
pub language_has : (cs : List Component) → length cs ≤ places → components_of (language_with cs) ≡ cs
language_has [] h = refl
language_has (a ∷ []) h = refl
language_has (a ∷ b ∷ []) h = refl
language_has (a ∷ b ∷ c ∷ []) h = refl
language_has (a ∷ b ∷ c ∷ d ∷ []) h = refl
language_has (a ∷ b ∷ c ∷ d ∷ e ∷ cs) h = absurd (omega arith)

-- a language has one component more than products
pub one_more_component : (t : Nesting) → length (nested t) ≡ suc (products t)
one_more_component (one c) = refl
one_more_component (product x y) = length-append (nested x) (nested y) ∙ omega (arith, one_more_component x, one_more_component y)
