-- Words that are split four times are the four fronts one after another, and what is left over.
use Rattle.std.specs.Prelude.{ℕ, ◌≡◌, List, [], ◌∷◌, ◌++◌, length, refl}
use Rattle.std.proofs.Common.{sym, ◌∙◌, ap, append_assoc, arith, subst}
use Rattle.std.proofs.Math.Seq.{take-append_seam}
use Rattle.std.proofs.lemmas.List.{append-nil}
use Rattle.exchange.specs.Cut.{StartOf}

is_nil : (xs : List ℕ) → length xs ≡ 0 → xs ≡ []
is_nil [] e = refl
is_nil (x ∷ xs) e = absurd (omega (arith, e))

-- the fronts, and what is left over
fronts : (ws r1 r2 r3 r4 a b c d : List ℕ) → a ++ r1 ≡ ws → b ++ r2 ≡ r1 → c ++ r3 ≡ r2 → d ++ r4 ≡ r3 → (a ++ b ++ c ++ d) ++ r4 ≡ ws
fronts ws r1 r2 r3 r4 a b c d ea eb ec ed =
    append_assoc (a ++ b ++ c) d r4 ∙ ap (λ r. a ++ b ++ c ++ r) ed
    ∙ append_assoc (a ++ b) c r3 ∙ ap (λ r. a ++ b ++ r) ec
    ∙ append_assoc a b r2 ∙ ap (λ r. a ++ r) eb
    ∙ ea

pub joined : (ws r1 r2 r3 r4 a b c d : List ℕ) → a ++ r1 ≡ ws → b ++ r2 ≡ r1 → c ++ r3 ≡ r2 → d ++ r4 ≡ r3 → length r4 ≡ 0 → a ++ b ++ c ++ d ≡ ws
joined ws r1 r2 r3 r4 a b c d ea eb ec ed none =
    let all = a ++ b ++ c ++ d in
    sym (append-nil all) ∙ ap (λ r. all ++ r) (sym (is_nil r4 none)) ∙ fronts ws r1 r2 r3 r4 a b c d ea eb ec ed

pub starts : (ws r1 r2 r3 r4 a b c d : List ℕ) → a ++ r1 ≡ ws → b ++ r2 ≡ r1 → c ++ r3 ≡ r2 → d ++ r4 ≡ r3 → StartOf ws (a ++ b ++ c ++ d)
starts ws r1 r2 r3 r4 a b c d ea eb ec ed =
    let all = a ++ b ++ c ++ d in
    subst (λ (q : List ℕ). StartOf q all) (fronts ws r1 r2 r3 r4 a b c d ea eb ec ed) (take-append_seam all r4)
