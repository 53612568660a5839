use native.Mathlib.Omega.{arith}
use Rattle.weights.specs.Languages.{places_of}
use Rattle.matrices.proofs.Diagonal.{fresh_with, fresh_without}
use Rattle.matrices.proofs.fresh.fresh_row.Goals as goal

pub returns-then-i-n : goal.returns-then-i-n
returns-then-i-n c = fresh_with (places_of c.args.p) c.args.i c.args.n c.args.row.now _ (omega arith) (c.fill.ensures.after (λ y e. e)) _ _ c.if-i-n.true c.write_at.ensures c.fresh_weight.ensures

pub returns-else-i-n : goal.returns-else-i-n
returns-else-i-n c = fresh_without (places_of c.args.p) c.args.i c.args.n c.args.row.now _ (omega arith) (c.fill.ensures.after (λ y e. e)) c.if-i-n.false
