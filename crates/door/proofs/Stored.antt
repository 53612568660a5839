-- Words stored one part after another, and at the front of a buffer; the words and the number of a law report.
use Prim.Native.Nat.{ℕ, suc, ◌+◌, ◌≤◌}
use mathlib.Core.Path.{◌≡◌, refl, ap, ◌∙◌}
use mathlib.Core.Bool.{Bool}
use mathlib.Core.List.{List, [], ◌∷◌, ◌++◌}
use native.Mathlib.Omega.{arith}
use lib.ListN.{length, drop, length-append}
use lib.Seq.{sets, sets-eq}
use Rattle.weights.specs.declared.Component.{Component}
use Rattle.weights.specs.declared.Component.TheVariants.{Dist, Width, Class, Gain}
use Rattle.weights.specs.declared.Language.{Language}
use Rattle.laws.specs.declared.Law.{Law}
use Rattle.laws.specs.declared.Law.TheVariants.{Held, BrokenBy}
use Rattle.laws.specs.declared.Witness.{Witness}
use Rattle.weights.specs.PerPlace.{list_of}
use Rattle.laws.specs.Report.{law_of}
use Rattle.door.specs.Languages.{place_numbers}
use Rattle.door.specs.Problems.{problem_words, problem_of}
use Rattle.door.specs.Reports.{report_words, law_words, laws_words, held_number, held_laws}

-- two parts, the second stored after the first, are one part
pub sets_after : (vs ws l : List ℕ) (i j : ℕ) → j ≡ i + length vs → sets (sets l i vs) j ws ≡ sets l i (vs ++ ws)
sets_after [] ws l i j e = let z : j ≡ i = omega arith in rw z
sets_after (v ∷ vs) ws l i j e = sets_after vs ws _ (suc i) j (omega arith)

-- the same for a buffer that two stores have left
pub after : (l : List ℕ) {mid now : List ℕ} (i j : ℕ) (vs ws : List ℕ) → mid ≡ sets l i vs → now ≡ sets mid j ws → j ≡ i + length vs → now ≡ sets l i (vs ++ ws)
after l i j vs ws d e h = e ∙ ap (λ (s : List ℕ). sets s j ws) d ∙ sets_after vs ws l i j h

-- at the front: the part, and what the buffer held after it
pub front : (l : List ℕ) {now : List ℕ} (vs : List ℕ) (k : ℕ) → now ≡ sets l 0 vs → length vs ≡ k → k ≤ length l → now ≡ vs ++ drop k l
front l vs k e h m =
    let z : 0 + length vs ≡ k = omega arith in
    e ∙ sets-eq vs l 0 (omega arith) ∙ rw z

-- a place has two numbers
pub place_long : (c : Component) → length (place_numbers c) ≡ 2
place_long Dist = refl
place_long (Width limit) = refl
place_long (Class limit) = refl
place_long Gain = refl

-- the twelve words of a problem, stored part by part
pub problem_stored : (s : List ℕ) {s₁ s₂ s₃ s₄ s₅ s₆ : List ℕ} (n m mode : ℕ) (l : Language) → problem_words ≤ length s
    → s₁ ≡ sets s 0 (n ∷ m ∷ []) → s₂ ≡ sets s₁ 2 (mode ∷ l.count ∷ [])
    → s₃ ≡ sets s₂ 4 (place_numbers l.first) → s₄ ≡ sets s₃ 6 (place_numbers l.second)
    → s₅ ≡ sets s₄ 8 (place_numbers l.third) → s₆ ≡ sets s₅ 10 (place_numbers l.fourth)
    → s₆ ≡ problem_of n m mode l ++ drop problem_words s
problem_stored s n m mode l h e₁ e₂ e₃ e₄ e₅ e₆ =
    let a = place_long l.first in
    let b = place_long l.second in
    let c = place_long l.third in
    let d = place_long l.fourth in
    let front₂ : List ℕ = n ∷ m ∷ mode ∷ l.count ∷ [] in
    let front₃ = front₂ ++ place_numbers l.first in
    let front₄ = front₃ ++ place_numbers l.second in
    let front₅ = front₄ ++ place_numbers l.third in
    let long₃ : length front₃ ≡ 6 = length-append front₂ (place_numbers l.first) ∙ omega arith in
    let long₄ : length front₄ ≡ 8 = length-append front₃ (place_numbers l.second) ∙ omega arith in
    let long₅ : length front₅ ≡ 10 = length-append front₄ (place_numbers l.third) ∙ omega arith in
    let long₆ : length (front₅ ++ place_numbers l.fourth) ≡ 12 = length-append front₅ (place_numbers l.fourth) ∙ omega arith in
    let d₂ = after s 0 2 (n ∷ m ∷ []) (mode ∷ l.count ∷ []) e₁ e₂ refl in
    let d₃ = after s 0 4 front₂ (place_numbers l.first) d₂ e₃ refl in
    let d₄ = after s 0 6 front₃ (place_numbers l.second) d₃ e₄ (omega arith) in
    let d₅ = after s 0 8 front₄ (place_numbers l.third) d₄ e₅ (omega arith) in
    let d₆ = after s 0 10 front₅ (place_numbers l.fourth) d₅ e₆ (omega arith) in
    front s (front₅ ++ place_numbers l.fourth) problem_words d₆ long₆ h

-- a law has twelve words, held or broken by whatever words
law_long : (l : Law) → length (law_words (law_of l)) ≡ 12
law_long Held = refl
law_long (BrokenBy w) = refl

-- the words of three laws, stored law by law
pub laws_stored : (s : List ℕ) {s₁ s₂ s₃ : List ℕ} (x y z : Law) → report_words ≤ length s
    → s₁ ≡ sets s 0 (law_words (law_of x)) → s₂ ≡ sets s₁ 12 (law_words (law_of y)) → s₃ ≡ sets s₂ 24 (law_words (law_of z))
    → s₃ ≡ laws_words (law_of x) (law_of y) (law_of z) ++ drop report_words s
laws_stored s x y z h e₁ e₂ e₃ =
    let d = law_words (law_of x) in
    let u = law_words (law_of y) in
    let c = law_words (law_of z) in
    let a = law_long x in
    let long₂ : length (d ++ u) ≡ 24 = length-append d u ∙ (let b = law_long y in omega arith) in
    let long₃ : length (d ++ u ++ c) ≡ report_words = length-append (d ++ u) c ∙ (let b = law_long z in omega arith) in
    front s (d ++ u ++ c) report_words (after s 0 24 (d ++ u) c (after s 0 12 d u e₁ e₂ (omega arith)) e₃ (omega arith)) long₃ h

-- what is made of three things, made of three that equal them
alike : {A B : Type 0} (f : A → A → A → B) {x y z x' y' z' : A} → x ≡ x' → y ≡ y' → z ≡ z' → f x y z ≡ f x' y' z'
alike f {x} {y} {z} {x'} {y'} {z'} e₁ e₂ e₃ = ap (λ a. f a y z) e₁ ∙ ap (λ a. f x' a z) e₂ ∙ ap (λ a. f x' y' a) e₃

-- a law's words are those that break it, zeros where it is held
pub words_of_law : (law : Law) (w : Witness) → list_of w.s ≡ (law_of law).s → list_of w.x ≡ (law_of law).x → list_of w.y ≡ (law_of law).y
    → law_words (law_of (BrokenBy w)) ≡ law_words (law_of law)
words_of_law law w s x y = alike (λ a b c. a ++ b ++ c) s x y

-- the same for the words of a report
pub words_of_laws : (d u c : Law) (x y z : Witness)
    → law_words (law_of (BrokenBy x)) ≡ law_words (law_of d) → law_words (law_of (BrokenBy y)) ≡ law_words (law_of u) → law_words (law_of (BrokenBy z)) ≡ law_words (law_of c)
    → laws_words (law_of (BrokenBy x)) (law_of (BrokenBy y)) (law_of (BrokenBy z)) ≡ laws_words (law_of d) (law_of u) (law_of c)
words_of_laws d u c x y z e₁ e₂ e₃ = alike (λ a b c. a ++ b ++ c) e₁ e₂ e₃

-- and for the number of the laws that are held
pub held_of_laws : (d u c : Law) (x y z : Bool) → x ≡ (law_of d).held → y ≡ (law_of u).held → z ≡ (law_of c).held
    → held_number x y z ≡ held_laws (law_of d) (law_of u) (law_of c)
held_of_laws d u c x y z e₁ e₂ e₃ = alike held_number e₁ e₂ e₃
