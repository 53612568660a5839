use Prim.Native.Nat.{◌*◌}
use Rattle.printing.proofs.Whole.{matrix_small, table_small, zeros}
use Rattle.printing.proofs.text.put_network.Goals as goal

pub put_worked-requires : goal.put_worked-requires
put_worked-requires c = (
  c.requires.0,
  c.requires.1,
  c.requires.2,
  c.requires.3,
  zeros (c.args.n * (c.args.n * 4)) 1024 (matrix_small c.args.n c.requires.1),
  zeros (c.args.n * (c.args.m * 5)) 2560 (table_small c.args.n c.args.m c.requires.1 c.requires.2),
  c.requires.6,
)
