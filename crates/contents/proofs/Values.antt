-- The values of a record as the words of a weight.
use Prim.Native.Nat.{ℕ, zero, suc, ◌+◌, ◌≤◌}
use mathlib.Core.Path.{◌≡◌, refl}
use mathlib.Core.Bool.{cond}
use mathlib.Core.List.{List, [], ◌∷◌, ◌++◌}
use native.Mathlib.Omega.{arith}
use native.Mathlib.Nat.{add-zero}
use lib.Dec.{ltb}
use lib.ListN.{length, set}
use lib.Seq.{sets}
use Rattle.weights.specs.Sizes.{places}
use Rattle.weights.specs.Weights.{route}
use Rattle.weights.specs.Words.{words}
use Rattle.file_bytes.specs.Bytes.{two_at}
use Rattle.contents.specs.Contents.{values_at}

-- four words, 0 where there is no component
pub four_words_lem : (s : List ℕ) (count at : ℕ) → count ≤ places
    → words (route (cond (ltb 0 count) (two_at s (at + 2)) 0 ∷ cond (ltb 1 count) (two_at s (at + 4)) 0 ∷ cond (ltb 2 count) (two_at s (at + 6)) 0 ∷ cond (ltb 3 count) (two_at s (at + 8)) 0 ∷ []))
    ≡ words (route (values_at s (at + 2) count))
unfolding words
four_words_lem s zero at h = refl
four_words_lem s (suc zero) at h = refl
four_words_lem s (suc (suc zero)) at h = let p : at + 4 ≡ at + 2 + 2 = omega arith in rw p
four_words_lem s (suc (suc (suc zero))) at h =
    let p : at + 4 ≡ at + 2 + 2 = omega arith in
    let q : at + 6 ≡ at + 2 + 2 + 2 = omega arith in
    rw (p, q)
four_words_lem s (suc (suc (suc (suc zero)))) at h =
    let p : at + 4 ≡ at + 2 + 2 = omega arith in
    let q : at + 6 ≡ at + 2 + 2 + 2 = omega arith in
    let r : at + 8 ≡ at + 2 + 2 + 2 + 2 = omega arith in
    rw (p, q, r)
four_words_lem s (suc (suc (suc (suc (suc n))))) at h = absurd (omega arith)

-- a word stored after others
pub sets_last : (vs l : List ℕ) (n t : ℕ) → set (sets l n vs) (n + length vs) t ≡ sets l n (vs ++ (t ∷ []))
sets_last [] l n t = rw add-zero
sets_last (v ∷ vs) l n t = let q : n + length (v ∷ vs) ≡ suc n + length vs = omega arith in rw q (sets_last vs (set l n v) (suc n) t)
