-- Texts put piece after piece are the pieces and lines of the definitions.
use Prim.Native.Nat.{ℕ, ◌+◌, ◌*◌, ◌≤◌, ◌<◌}
use mathlib.Core.Path.{◌≡◌, refl, sym, ap, ◌∙◌}
use mathlib.Core.List.{List, [], ◌∷◌, ◌++◌, append_assoc, append-nil}
use native.Mathlib.Omega.{arith}
use borrow.Author.Tests.{ne_eqb}
use borrow.Rule.Slice.PartMut.{put_mid}
use lib.ListN.{length, get_or, take, set}
use lib.Seq.{length-sets, take_all}
use Rattle.std.proofs.lemmas.List.{take_more}
use Rattle.words.proofs.Writing.{put_mid_is}
use Rattle.weights.specs.Weights.{Weight}
use Rattle.modes.specs.Entries.{Entry}
use Rattle.decimals.specs.Texts.{Put}
use Rattle.decimals.proofs.Putting.{put_none, put_byte, put_then, put_as}
use Rattle.texts.specs.Lines.{feed_byte, field, spaced, weight_text, outside_text, entry_text, route_line, entry_line}

-- ---- pieces

-- no text, with any bound
pub put_nothing : (k : ℕ) (s : List ℕ) (at : ℕ) → Put k s at [] s at
put_nothing k s at = put_as (put_none s at) refl (omega arith)

-- bytes copied over a part of the buffer
pub put_bytes : (s part bytes : List ℕ) (at k : ℕ) → part ≡ bytes → k ≡ length bytes → at + length bytes ≤ length s
    → Put (length bytes) s at bytes (put_mid at k s part) (at + length bytes)
put_bytes s part bytes at k e q h =
    let holds = put_mid_is s part bytes at k e q h in
    record { holds = holds; ends = refl; near = omega arith; long = ap length holds ∙ length-sets s at bytes }

-- ---- numbers, each after a space

spaced_append : (xs ys : List ℕ) → spaced (xs ++ ys) ≡ spaced xs ++ spaced ys
spaced_append [] ys = refl
spaced_append (x ∷ xs) ys = ap (λ (z : List ℕ). field x ++ z) (spaced_append xs ys) ∙ sym (append_assoc (field x) (spaced xs) (spaced ys))

module _ (xs s₀ : List ℕ) (at : ℕ) where
  -- the first i of them stand from at on
  abbrev pub Spaced : ℕ → List ℕ → ℕ → Type 0
  Spaced i s end = Put (i * 11) s₀ at (spaced (take i xs)) s end

  pub spaced_none : Spaced 0 s₀ at
  spaced_none = put_none s₀ at

  pub spaced_more : (i : ℕ) {s₁ s₂ : List ℕ} {e₁ e₂ : ℕ} → i < length xs → Spaced i s₁ e₁ → Put 11 s₁ e₁ (field (get_or xs i 0)) s₂ e₂ → Spaced (i + 1) s₂ e₂
  spaced_more i h p q =
      let x = get_or xs i 0 in
      let e : spaced (take (i + 1) xs) ≡ spaced (take i xs) ++ field x = ap spaced (take_more xs i 0 h) ∙ spaced_append (take i xs) (x ∷ []) ∙ ap (λ (z : List ℕ). spaced (take i xs) ++ z) (append-nil (field x)) in
      put_as (put_then p q) (sym e) (omega arith)

  pub spaced_all : (i k : ℕ) {s : List ℕ} {end : ℕ} → length xs ≤ i → i ≤ k → Spaced i s end → Put (k * 11) s₀ at (spaced xs) s end
  spaced_all i k long few p = put_as p (ap spaced (take_all i xs long)) (omega arith)

-- t after them, but in plain mode
pub put_outside : (mode t : ℕ) (xs : List ℕ) {s₀ s₁ s₂ : List ℕ} {at e₁ e₂ : ℕ}
    → Put 44 s₀ at (spaced xs) s₁ e₁ → (mode ≡ 1 → ⊥) → Put 11 s₁ e₁ (field t) s₂ e₂
    → Put 55 s₀ at (spaced xs ++ outside_text mode t) s₂ e₂
put_outside mode t xs p e q = rw (ne_eqb mode 1 e) (put_then p q)

-- ---- lines

-- a letter and two fields
pub put_two : (letter x y : ℕ) {s₀ s₁ s₂ : List ℕ} {at e₁ e₂ : ℕ}
    → Put 11 (set s₀ at letter) (at + 1) (field x) s₁ e₁ → Put 11 s₁ e₁ (field y) s₂ e₂
    → Put 23 s₀ at (letter ∷ spaced (x ∷ y ∷ [])) s₂ e₂
put_two letter x y {s₀ = s₀} {at = at} p q =
    put_as (put_then (put_byte s₀ at letter) (put_then p q)) (ap (λ (z : List ℕ). letter ∷ (field x ++ z)) (sym (append-nil (field y)))) (omega arith)

-- what follows them, and a line feed
line_put : (letter k : ℕ) (a w : List ℕ) {s₀ s₁ s₂ : List ℕ} {at e₁ e₂ : ℕ}
    → Put 23 s₀ at (letter ∷ a) s₁ e₁ → Put k s₁ e₁ w s₂ e₂
    → Put (k + 24) s₀ at (letter ∷ ((a ++ w) ++ (feed_byte ∷ []))) (set s₂ e₂ feed_byte) (e₂ + 1)
line_put letter k a w {s₂ = s₂} {e₂ = e₂} p q = put_as (put_then (put_then p q) (put_byte s₂ e₂ feed_byte)) refl (omega arith)

pub put_route : (i j : ℕ) (w : Weight) {s₀ s₁ s₂ : List ℕ} {at e₁ e₂ : ℕ}
    → Put 23 s₀ at (82 ∷ spaced (i ∷ j ∷ [])) s₁ e₁ → Put 44 s₁ e₁ (weight_text w) s₂ e₂
    → Put 68 s₀ at (route_line i j w) (set s₂ e₂ feed_byte) (e₂ + 1)
unfolding route_line
put_route i j w p q = line_put 82 44 (spaced (i ∷ j ∷ [])) (weight_text w) p q

pub put_entry : (mode i d : ℕ) (e : Entry) {s₀ s₁ s₂ : List ℕ} {at e₁ e₂ : ℕ}
    → Put 23 s₀ at (70 ∷ spaced (i ∷ d ∷ [])) s₁ e₁ → Put 55 s₁ e₁ (entry_text mode e) s₂ e₂
    → Put 79 s₀ at (entry_line mode i d e) (set s₂ e₂ feed_byte) (e₂ + 1)
unfolding entry_line
put_entry mode i d e p q = line_put 70 55 (spaced (i ∷ d ∷ [])) (entry_text mode e) p q

three_text : (a b c e : List ℕ) → a ++ (b ++ (c ++ e)) ≡ (a ++ (b ++ (c ++ []))) ++ e
three_text a b c e =
    sym (append_assoc a b (c ++ e))
    ∙ sym (append_assoc (a ++ b) c e)
    ∙ ap (λ (z : List ℕ). z ++ e) (append_assoc a b c ∙ ap (λ (z : List ℕ). a ++ (b ++ z)) (sym (append-nil c)))

pub put_three : (x y z : ℕ) {s₀ s₁ s₂ s₃ : List ℕ} {at e₁ e₂ e₃ : ℕ}
    → Put 11 s₀ at (field x) s₁ e₁ → Put 11 s₁ e₁ (field y) s₂ e₂ → Put 11 s₂ e₂ (field z) s₃ e₃
    → Put 34 s₀ at (spaced (x ∷ y ∷ z ∷ []) ++ (feed_byte ∷ [])) (set s₃ e₃ feed_byte) (e₃ + 1)
put_three x y z {s₃ = s₃} {e₃ = e₃} p q r =
    put_as (put_then p (put_then q (put_then r (put_byte s₃ e₃ feed_byte)))) (three_text (field x) (field y) (field z) (feed_byte ∷ [])) (omega arith)
