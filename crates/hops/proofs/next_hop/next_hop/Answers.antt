use Rattle.std.proofs.Common.{rules}
use Rattle.guards.specs.OnNetwork.{on_network}
use Rattle.hops.proofs.Answers.{pair_refused, found_row}
use Rattle.hops.proofs.next_hop.next_hop.Goals as goal

pub returns-in_err-and : goal.returns-in_err-and
returns-in_err-and c = let s = c.network.inside in let said = rw (← c.network.view_is) at c.in_ok-p.ensures in
    let e = pair_refused (on_network s.language s.n s.arcs.now) c.args.r.now c.args.i c.args.j said.0 c.check_node.ensures c.check_node-2.ensures c.and.ensures _ c.in_err-and.was in
    search rules

pub returns : goal.returns
returns c = let s = c.network.inside in let said = rw (← c.network.view_is) at c.in_ok-p.ensures in
    rw (← c.network.view_is) (found_row (on_network s.language s.n s.arcs.now) c.args.r.now c.args.i c.args.j said.0 c.check_node.ensures c.check_node-2.ensures c.and.ensures c.in_ok-p.p said.1 said.2 c.in_ok-and.was c.hop.result c.hop.ensures)
