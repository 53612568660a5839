use Rattle.std.proofs.Common.{refl, rules}
use Rattle.guards.specs.OnNetwork.{on_network}
use Rattle.printing.proofs.Working.{sweeps_few, sweeps_lent, fresh_refused, steps_tried}
use Rattle.printing.proofs.work.sweep.Goals as goal

pub returns-in_err-fresh : goal.returns-in_err-fresh
returns-in_err-fresh c = let s = c.network.inside in let fresh = c.in_err-fresh.ensures in
    let whole = fresh_refused (on_network s.language s.n s.arcs.now) c.args.r.now _ _ _ fresh.answer fresh.r_after refl in
    rw (← c.network.view_is) (search rules)

pub returns-in-Ok : goal.returns-in-Ok
returns-in-Ok c = let s = c.network.inside in let fresh = c.in_ok-fresh.ensures in
    let small = rw (← c.network.view_is) at c.requires in
    let steps = rw (← c.network.view_is) at c.in-Ok.ensures in
    let whole = steps_tried (on_network s.language s.n s.arcs.now) c.args.r.now _ _ _ _ _ fresh.answer fresh.r_after (sweeps_lent s.n c.put_sweeps.ensures (sweeps_few s.n small.1)) steps.answer steps.r_after refl in
    rw (← c.network.view_is) (record { value = whole.0; r_after = whole.1 })

pub returns-in-Err : goal.returns-in-Err
returns-in-Err c = let s = c.network.inside in let fresh = c.in_ok-fresh.ensures in
    let small = rw (← c.network.view_is) at c.requires in
    let steps = rw (← c.network.view_is) at c.in-Err.ensures in
    let whole = steps_tried (on_network s.language s.n s.arcs.now) c.args.r.now _ _ _ _ _ fresh.answer fresh.r_after (sweeps_lent s.n c.put_sweeps.ensures (sweeps_few s.n small.1)) steps.answer steps.r_after refl in
    rw (← c.network.view_is) (record { value = whole.0; r_after = whole.1 })
