use Rattle.std.proofs.Common.{arith}
use Rattle.printing.proofs.Whole.{refused_text, done_text, done_in_ranges}
use Rattle.printing.proofs.text.print_text.Goals as goal

pub put_network-requires : goal.put_network-requires
put_network-requires c = let r = done_in_ranges c.args.file.now _ _ _ _ _ _ _ _ c.in-Ok.ensures in
    (r.0, r.1, r.2, r.3, omega arith, omega arith, c.requires)

pub returns-in-Ok : goal.returns-in-Ok
returns-in-Ok c = done_text c.args.file.now _ _ _ _ _ _ _ _ c.in-Ok.ensures c.put_network.ensures

pub returns-in-Err : goal.returns-in-Err
returns-in-Err c = refused_text c.args.file.now _ _ _ _ _ _ (omega arith) (omega arith) c.in-Err.ensures c.from.ensures c.put_refused_line.ensures
