use Rattle.std.proofs.Common.{rules, ap, sym, ◌∙◌}
use Rattle.std.specs.Result.{result_and}
use Rattle.guards.proofs.Entering.{by_lengths_or_laws, entered}
use Rattle.guards.proofs.entrance.enter.Goals as goal

pub returns-in_err-and : goal.returns-in_err-and
returns-in_err-and c = let says = c.in_ok-p.ensures in
    let e = by_lengths_or_laws c.args.l c.args.sizes c.args.lengths c.in_ok-p.p c.in_ok-sizes.was says.0 says.1 (ap (result_and c.args.lengths) (sym c.check_laws.ensures) ∙ sym c.and.ensures ∙ c.in_err-and.was) in
    search rules

pub returns : goal.returns
returns c = let says = c.in_ok-p.ensures in
    entered c.args.l c.args.sizes c.args.lengths c.in_ok-p.p c.in_ok-sizes.was says.0 says.1 says.2 (ap (result_and c.args.lengths) (sym c.check_laws.ensures) ∙ sym c.and.ensures ∙ c.in_ok-and.was)
