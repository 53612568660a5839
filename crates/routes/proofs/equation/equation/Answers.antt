use Rattle.std.proofs.Common.{rules}
use Rattle.guards.specs.OnNetwork.{on_network}
use Rattle.routes.proofs.Answers.{equation_answers}
use Rattle.routes.proofs.equation.equation.Goals as goal

pub returns : goal.returns
returns c = let s = c.network.inside in let said = rw (← c.network.view_is) at c.in_ok-p.ensures in
    let whole = equation_answers (on_network s.language s.n s.arcs.now) c.args.r.now c.in_ok-p.p said.0 said.1 said.2 c.solves.ensures in
    search rules
