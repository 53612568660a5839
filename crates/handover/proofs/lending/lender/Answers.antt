use Rattle.guards.specs.OnNetwork.{on_network}
use Rattle.handover.proofs.Answers.{lender_newer, lender_standing}
use Rattle.handover.proofs.lending.lender.Goals as goal

pub returns-then-all_best : goal.returns-then-all_best
returns-then-all_best c = let s = c.network.inside in
    rw (← c.network.view_is) (lender_newer (on_network s.language s.n s.arcs.now) c.args.standing.now c.args.newer.now c.args.i c.in_ok-p.p (rw (← c.network.view_is) at c.in_ok-p.ensures) c.all_best.ensures c.if-all_best.true)

pub returns : goal.returns
returns c = let s = c.network.inside in
    rw (← c.network.view_is) (lender_standing (on_network s.language s.n s.arcs.now) c.args.standing.now c.args.newer.now c.args.i c.in_ok-p.p (rw (← c.network.view_is) at c.in_ok-p.ensures) c.all_best.ensures c.if-all_best.false)
