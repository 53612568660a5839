use Rattle.std.proofs.Common.{sym}
use Rattle.tronglephu.proofs.route_calls.tronglephu_fresh.Goals as goal

pub returns-clause-r_after : goal.returns-clause-r_after
returns-clause-r_after c = rw (sym c.language.ensures) c.fresh.ensures.r_after
