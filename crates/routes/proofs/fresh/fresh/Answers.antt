use Rattle.std.proofs.Common.{rules}
use Rattle.routes.proofs.Order.{fresh_stops, fresh_enters}
use Rattle.routes.proofs.Answers.{fresh_done, fresh_refused}
use Rattle.routes.proofs.fresh.fresh.Goals as goal

pub fresh-requires : goal.fresh-requires
fresh-requires c = let s = c.args in (fresh_enters s.l s.n s.r.now c.check_nodes.ensures c.check_length.ensures c.in_ok-p.ensures).1

pub returns-in_err-p : goal.returns-in_err-p
returns-in_err-p c = let s = c.args in
    let whole = fresh_refused s.l s.n s.r.now _ (fresh_stops s.l s.n s.r.now c.check_nodes.ensures c.check_length.ensures c.in_err-p.ensures) in
    search rules

pub returns : goal.returns
returns c = let s = c.args in
    let whole = fresh_done s.l s.n c.in_ok-p.p s.r.now _ (fresh_enters s.l s.n s.r.now c.check_nodes.ensures c.check_length.ensures c.in_ok-p.ensures).0 c.in_ok-p.ensures.in_places c.fresh.ensures in record { answer = whole.0; r_after = whole.1 }
