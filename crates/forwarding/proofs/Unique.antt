-- Two answers that meet one contract are equal, and so are the buffers that they leave.
use Prim.Native.Nat.{ℕ}
use mathlib.Core.Path.{◌≡◌, sym, ◌∙◌}
use mathlib.Core.List.{List}
use Rattle.refusals.proofs.OneToOne.{answer_one}
use Rattle.forwarding.specs.Calls.{OnTables, Meets}
use Rattle.refusals.specs.Checks.{Check}

pub forward_answers_equal : (T : OnTables) (f : List ℕ) (x y : Check) (left right : List ℕ) → Meets T f x left → Meets T f y right → (x ≡ y) × (left ≡ right)
forward_answers_equal T f x y left right p q = (answer_one x y (p.answer ∙ sym q.answer), p.buffer ∙ sym q.buffer)
