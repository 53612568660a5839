-- The words of a weight in a buffer, one by one.
use Prim.Native.Nat.{ℕ, suc, ◌+◌, ◌≤◌, ◌<◌}
use mathlib.Core.Path.{◌≡◌}
use mathlib.Core.List.{List, [], ◌∷◌}
use native.Mathlib.Omega.{arith}
use native.Mathlib.Numerals.{add-one, add-two, add-three}
use lib.ListN.{length, get_or, take, drop}
use lib.Seq.{drop-cons}
use Rattle.weights.specs.Sizes.{weight_words}

pub four_words_lem : (s : List ℕ) (at : ℕ) → at + weight_words ≤ length s
    → take weight_words (drop at s) ≡ get_or s at 0 ∷ get_or s (at + 1) 0 ∷ get_or s (at + 2) 0 ∷ get_or s (at + 3) 0 ∷ []
four_words_lem s at h =
    let h0 : at < length s = omega arith in
    let h1 : suc at < length s = omega arith in
    let h2 : suc (suc at) < length s = omega arith in
    let h3 : suc (suc (suc at)) < length s = omega arith in
    simp (add-one, add-two, add-three)
    (rw (drop-cons s at 0 h0, drop-cons s (suc at) 0 h1, drop-cons s (suc (suc at)) 0 h2, drop-cons s (suc (suc (suc at))) 0 h3))
