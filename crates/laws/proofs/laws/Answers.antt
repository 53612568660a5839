use Rattle.laws.proofs.Reporting.{report_laws}
use Rattle.laws.proofs.laws.Goals as goal

pub returns : goal.returns
returns c = let said = c.in_ok-p.ensures in
    report_laws c.args.l _ _ said.0 said.1 c.law_d.ensures c.law_u.ensures c.law_c.ensures
