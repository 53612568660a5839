use Rattle.std.proofs.Common.{◌≡◌, ◌≤◌, length}
use Rattle.exchange.proofs.frames.put.Given as goal

abbrev pub invariant-loop-word : goal.invariant-loop-word
invariant-loop-word l = (l.start ≤ length l.initial.frame → (l.start ≤ l.at) × (l.at ≤ length l.initial.frame)) × (length l.frame ≡ length l.initial.frame)
