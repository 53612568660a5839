use Rattle.std.proofs.Common.{rules}
use Rattle.guards.specs.OnNetwork.{on_network}
use Rattle.handover.proofs.Order.{handover_stops, own_then, handover_given}
use Rattle.handover.proofs.checks.ready.Goals as goal

pub returns-in_err-p : goal.returns-in_err-p
returns-in_err-p c = let s = c.network.inside in
    let e = handover_stops (on_network s.language s.n s.arcs.now) c.args.standing.now c.args.newer.now c.args.i c.check_nodes.ensures c.check_length.ensures c.check_length-2.ensures c.and-matrices.ensures c.check_length-3.ensures c.and-lengths.ensures c.in_err-p.ensures in
    search rules

pub returns-in_err-and : goal.returns-in_err-and
returns-in_err-and c = let s = c.network.inside in
    let e = own_then (on_network s.language s.n s.arcs.now) c.args.standing.now c.args.newer.now c.args.i c.check_nodes.ensures c.check_length.ensures c.check_length-2.ensures c.and-matrices.ensures c.check_length-3.ensures c.and-lengths.ensures c.in_ok-p.p c.in_ok-p.ensures c.first_malformed-arcs.ensures c.check_node.ensures c.and.ensures c.in_err-and.was in
    search rules

pub returns : goal.returns
returns c = let s = c.network.inside in
    rw (← c.network.view_is) (handover_given (on_network s.language s.n s.arcs.now) c.args.standing.now c.args.newer.now c.args.i c.check_nodes.ensures c.check_length.ensures c.check_length-2.ensures c.and-matrices.ensures c.check_length-3.ensures c.and-lengths.ensures c.in_ok-p.p c.in_ok-p.ensures c.first_malformed-arcs.ensures c.check_node.ensures c.and.ensures c.in_ok-and.was)
