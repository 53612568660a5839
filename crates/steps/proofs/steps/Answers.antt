use Rattle.guards.specs.OnNetwork.{on_network}
use Rattle.std.proofs.Common.{rules, sym, ◌∙◌}
use Rattle.routes.proofs.Lists.{list_passed}
use Rattle.routes.proofs.Answers.{list_refused, steps_stopped, steps_done}
use Rattle.steps.proofs.steps.Goals as goal

pub run-done-requires : goal.run-done-requires
run-done-requires c = let s = c.network.inside in let said = rw (← c.network.view_is) at c.in_ok-p.ensures in
    let listed = list_passed s.n c.args.list.now (sym c.check_list.ensures ∙ c.in_ok-check_list.was) in
    (said.2, listed.1, listed.0)

pub returns-then-done-list : goal.returns-then-done-list
returns-then-done-list c = let s = c.network.inside in let said = rw (← c.network.view_is) at c.in_ok-p.ensures in
    let whole = steps_stopped (on_network s.language s.n s.arcs.now) c.args.r.now c.args.list.now c.in_ok-p.p said.0 said.1 said.2 (sym c.check_list.ensures ∙ c.in_ok-check_list.was) _ _ c.run-done.ensures.value c.run-done.ensures.r_after c.if-done-list.true in
    rw (← c.network.view_is) (record { answer = whole.0; r_after = whole.1 })

pub returns-in_err-check_list : goal.returns-in_err-check_list
returns-in_err-check_list c = let s = c.network.inside in let said = rw (← c.network.view_is) at c.in_ok-p.ensures in
    let whole = list_refused (on_network s.language s.n s.arcs.now) c.args.r.now c.args.list.now c.in_ok-p.p said.0 _ (sym c.check_list.ensures ∙ c.in_err-check_list.was) in
    search rules

pub returns : goal.returns
returns c = let s = c.network.inside in let said = rw (← c.network.view_is) at c.in_ok-p.ensures in
    let whole = steps_done (on_network s.language s.n s.arcs.now) c.args.r.now c.args.list.now c.in_ok-p.p said.0 said.1 said.2 (sym c.check_list.ensures ∙ c.in_ok-check_list.was) _ _ c.run-done.ensures.value c.run-done.ensures.r_after c.if-done-list.false in
    rw (← c.network.view_is) (record { answer = whole.0; r_after = whole.1 })
