-- Words that are written over a part of a buffer are stored there one by one.
use Rattle.std.proofs.Common.{◌≡◌, ℕ, ◌+◌, ◌≤◌, List, ◌++◌, length, take, drop, sym, ap, ◌∙◌, arith, append_assoc}
use Rattle.std.proofs.lemmas.List.Edits.{sets, sets-eq}
use borrow.Rule.Slice.PartMut.{put_mid, mid_of}
use lib.ListN.{replicate, length-take, length-drop, length-replicate}
use lib.Seq.{drop-drop}

-- after `s[at..at + k].copy_from_slice(..)`
pub put_mid_is : (s part ws : List ℕ) (at k : ℕ) → part ≡ ws → k ≡ length ws → at + length ws ≤ length s → put_mid at k s part ≡ sets s at ws
put_mid_is s part ws at k e q h =
    ap (put_mid at k s) e
    ∙ ap (λ (z : ℕ). take at s ++ (ws ++ drop z (drop at s))) q
    ∙ ap (λ (z : List ℕ). take at s ++ (ws ++ z)) (drop-drop (length ws) at s)
    ∙ sym (append_assoc (take at s) ws _)
    ∙ sym (sets-eq ws s at h)

-- after `s[at..at + k].fill(w)`
pub filled_is : (s part : List ℕ) (at k n w : ℕ) → part ≡ replicate (length (mid_of at k s)) w → k ≡ n → at + n ≤ length s → put_mid at k s part ≡ sets s at (replicate n w)
filled_is s part at k n w e q h =
    let long : length (mid_of at k s) ≡ n = simp (length-take, length-drop) (omega arith) in
    let same = length-replicate n w in
    put_mid_is s part (replicate n w) at k (e ∙ ap (λ z. replicate z w) long) (omega arith) (omega arith)
