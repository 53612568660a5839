use Rattle.laws.specs.declared.Law.TheVariants.{BrokenBy}
use Rattle.door.proofs.Stored.{laws_stored}
use Rattle.door.proofs.reports.put_laws.Goals as goal

pub returns : goal.returns
returns c = laws_stored c.args.report.now (BrokenBy c.args.d) (BrokenBy c.args.u) (BrokenBy c.args.c) c.requires c.put_law.ensures c.put_law-2.ensures c.put_law-3.ensures
