use Rattle.weights.specs.Languages.{places_of}
use Rattle.forwarding.proofs.Order.{matrices_given}
use Rattle.forwarding.proofs.checks.check_contents.Goals as goal

pub check_equation-requires : goal.check_equation-requires
check_equation-requires c = let s = c.args in matrices_given s.mode (places_of s.p) s.n s.m s.a.now s.r.now s.mapping.now c.requires c.in_ok-first_malformed.ensures c.in_ok-first_malformed-2.ensures
