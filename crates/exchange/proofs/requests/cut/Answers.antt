use Rattle.std.proofs.Common.{◌∙◌, drop, ap}
use Rattle.exchange.proofs.Joined.{starts}
use Rattle.exchange.proofs.requests.cut.Goals as goal

pub returns : goal.returns
returns c =
    starts _ c.front-3.result.1.now c.front-4.result.1.now c.front-5.result.1.now c.front-6.result.1.now
    c.front-3.result.0.now c.front-4.result.0.now c.front-5.result.0.now c.front-6.result.0.now
    (c.front-3.ensures.joined ∙ c.front-2.ensures.rest ∙ ap (drop c.args.count) c.front.ensures.rest)
    c.front-4.ensures.joined c.front-5.ensures.joined c.front-6.ensures.joined
