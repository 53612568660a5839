use Rattle.std.proofs.Common.{arith}
use Rattle.tronglephu.proofs.Answers.{hop_small}
use Rattle.tronglephu.proofs.forwarding_calls.tronglephu_next_hop.Goals as goal

pub overflow_cast-node : goal.overflow_cast-node
overflow_cast-node c = let a = c.args in omega (arith, hop_small c.network-network.result a.r.now a.i a.j c.in-Ok-Some.node (rw c.in-Ok-Some.field-0-is at c.in-Ok-Some.ensures))
