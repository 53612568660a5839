-- A read into the rest of the buffer leaves its front as it was, and what it gave follows there.
use Rattle.std.proofs.Common.{◌≡◌, ℕ, ◌+◌, ◌-◌, ◌≤◌, List, ◌++◌, rules, arith, length, take, slice_range, sym, ap, ◌∙◌, subst, le_refl, drop_at, length-take-le}
use Rattle.std.proofs.lemmas.Slice.{take-put_mid_below}
use Rattle.std.specs.Io.KnownBytes.{Consumes}
use Rattle.std.proofs.KnownBytes.{Consumes-trans}
use borrow.Rule.Slice.PartMut.{put_mid, post_of}
use lib.Seq.{take-add, take-append-le}
use Rattle.inputs.proofs.read_full.Goals as goal

-- two parts that meet are one
front_and_next : (from to : ℕ) (old new : List ℕ) → from ≤ to → take from new ≡ take from old → take from old ++ slice_range new from to ≡ take to new
front_and_next from to old new ordered front =
    let same : from + (to - from) ≡ to = omega arith in
    ap (λ l. l ++ slice_range new from to) (sym front) ∙ sym (take-add from (to - from) new) ∙ ap (λ n. take n new) same

-- what stands next is what was read
next_is_read : (from room got : ℕ) (buffer part : List ℕ) → from ≤ length buffer → got ≤ length part → slice_range (put_mid from room buffer part) from (from + got) ≡ take got part
next_is_read from room got buffer part within fits =
    let same : (from + got) - from ≡ got = omega arith in
    let after = post_of from room buffer in
    ap (take ((from + got) - from)) (drop_at (take from buffer) (part ++ after) from (length-take-le from buffer within)) ∙ ap (λ m. take m (part ++ after)) same ∙ take-append-le got part after fits

pub loop-done-preserved : goal.loop-done-preserved
loop-done-preserved g c =
    let from = c.loop-done.done in
    let room = length c.loop-done.buffer - from in
    let got = c.in_ok-got.got in
    let within = c.loop-done.invariant.0 in
    let part = next_is_read from room got c.loop-done.buffer c.read.new.buf within c.in_ok-got.ensures.bound.0 in
    let joined = front_and_next from (from + got) c.loop-done.buffer (put_mid from room c.loop-done.buffer c.read.new.buf) (omega arith) (take-put_mid_below _ _ _ _ _ (le_refl _) within) in
    (search rules, subst (Consumes _ _) (ap (λ l. take from c.loop-done.buffer ++ l) (sym part) ∙ joined) (Consumes-trans _ _ _ _ _ c.loop-done.invariant.1 c.in_ok-got.ensures.bytes.0))
