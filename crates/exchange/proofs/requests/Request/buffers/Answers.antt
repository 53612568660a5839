use Rattle.std.proofs.Common.{rules, ◌≡◌, ◌∙◌, length}
use Rattle.exchange.proofs.Joined.{joined}
use Rattle.exchange.proofs.requests.Request.buffers.Goals as goal

pub returns : goal.returns
returns c =
    let none : length c.in_ok-fourth.rest.now ≡ 0 = search rules in
    joined c.in_ok-lengths.rest.now c.in_ok-first.rest.now c.in_ok-second.rest.now c.in_ok-third.rest.now c.in_ok-fourth.rest.now
    c.in_ok-first.first.now c.in_ok-second.second.now c.in_ok-third.third.now c.in_ok-fourth.fourth.now
    c.in_ok-first.ensures.joined c.in_ok-second.ensures.joined c.in_ok-third.ensures.joined c.in_ok-fourth.ensures.joined none
    ∙ c.in_ok-lengths.ensures.rest
