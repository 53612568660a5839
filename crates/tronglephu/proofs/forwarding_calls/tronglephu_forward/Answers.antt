use Rattle.tronglephu.proofs.forwarding_calls.tronglephu_forward.Goals as goal

pub returns-clause-f_after : goal.returns-clause-f_after
returns-clause-f_after c = rw c.network-network.ensures at c.forward.ensures.f_after
