use mathlib.Core.Path.{sym, ◌∙◌, subst}
use Rattle.weights.specs.Languages.{places_of}
use Rattle.weights.specs.Values.{AtMost}
use Rattle.weights.specs.Sizes.{places}
use Rattle.matrices.specs.Buffers.{entry_place, matrix_in}
use Rattle.matrices.proofs.Entries.{cell_is}
use Rattle.tables.specs.Tables.{table_in}
use Rattle.tables.proofs.Summing.{over_none, over_next, route_most, entry_most}
use Rattle.tables.proofs.Rooms.{in_table}
use Rattle.sums.proofs.forward_entry.Goals as goal

pub loop-k-init : goal.loop-k-init
loop-k-init c = let a = c.args in sym (over_none a.mode (places_of a.p) (matrix_in places a.n a.r.now) (table_in places a.m a.s.now) a.node.0 a.destination.0)

pub take_node-e-requires : goal.take_node-e-requires
take_node-e-requires c = let a = c.args in let hk = c.loop-k-test.true in (
  in_table a.n a.m a.s.now c.requires.0.table.sized c.loop-k.k a.destination.0 hk c.requires.2,
  subst (AtMost 2147483647) (cell_is a.r.now (entry_place a.n a.node.0 c.loop-k.k) ∙ sym c.weight_at-x.ensures) (route_most a.mode a.p a.n a.m a.r.now a.s.now c.requires.0 a.node.0 c.loop-k.k c.requires.1 hk),
  entry_most a.mode a.p a.n a.m a.r.now a.s.now c.requires.0 c.loop-k.k a.destination.0 hk c.requires.2,
)

pub loop-k-preserved : goal.loop-k-preserved
loop-k-preserved c = let a = c.args in
    over_next a.mode (places_of a.p) (matrix_in places a.n a.r.now) (table_in places a.m a.s.now) a.node.0 a.destination.0 c.loop-k.k _ _ _ c.take_node-e.ensures
    (c.weight_at-x.ensures ∙ sym (cell_is a.r.now (entry_place a.n a.node.0 c.loop-k.k))) c.loop-k.invariant
