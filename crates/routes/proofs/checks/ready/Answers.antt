use Rattle.std.proofs.Common.{rules}
use Rattle.guards.specs.OnNetwork.{on_network}
use Rattle.routes.proofs.Order.{entries_then, matrices_given}
use Rattle.routes.proofs.checks.ready.Goals as goal

pub returns-in_err-and : goal.returns-in_err-and
returns-in_err-and c = let s = c.network.inside in
    let e = entries_then (on_network s.language s.n s.arcs.now) c.args.r.now c.check_nodes.ensures c.check_length.ensures c.check_length-2.ensures c.and-lengths.ensures c.in_ok-p.p c.in_ok-p.ensures c.first_malformed-arcs.ensures c.first_malformed-routes.ensures c.and.ensures c.in_err-and.was in
    search rules

pub returns : goal.returns
returns c = let s = c.network.inside in rw (← c.network.view_is) (matrices_given (on_network s.language s.n s.arcs.now) c.args.r.now c.check_nodes.ensures c.check_length.ensures c.check_length-2.ensures c.and-lengths.ensures c.in_ok-p.p c.in_ok-p.ensures c.first_malformed-arcs.ensures c.first_malformed-routes.ensures c.and.ensures c.in_ok-and.was)
