use Rattle.std.proofs.Common.{ap, ◌∙◌}
use Rattle.tronglephu.specs.Calls.{handover_reply_of}
use Rattle.tronglephu.proofs.forwarding_calls.tronglephu_handover.Goals as goal

pub returns-in-Err : goal.returns-in-Err
returns-in-Err c = rw c.network-network.ensures at (c.refused.ensures ∙ ap handover_reply_of c.in-Err.ensures)
