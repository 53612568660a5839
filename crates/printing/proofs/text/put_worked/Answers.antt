use Rattle.guards.specs.OnNetwork.{on_network}
use Rattle.printing.proofs.Whole.{worked_text}
use Rattle.printing.proofs.text.put_worked.Goals as goal

pub returns : goal.returns
returns c = let routes = c.work_routes-routes.ensures in let table = c.work_table-table.ensures in worked_text (on_network c.args.l c.args.n c.args.a.now) c.args.m c.args.mode c.args.mapping.now c.args.r.now _ c.args.f.now _ _ _ c.requires.4 c.requires.5
    routes.value routes.r_after table.value table.f_after c.put_text.ensures
