use mathlib.Core.Path.{sym, subst, ◌∙◌}
use native.Mathlib.Omega.{arith}
use Rattle.weights.specs.Sizes.{places, arc_sum, matrix_sum}
use Rattle.weights.specs.Languages.{places_of}
use Rattle.weights.specs.Values.{weight_of, AtMost}
use Rattle.matrices.specs.Buffers.{entry_place, matrix_in}
use Rattle.matrices.proofs.Entries.{cell_is}
use Rattle.matrices.proofs.Bounds.{formed_most, most_weaken}
use Rattle.hops.proofs.Searching.{hop_other}
use Rattle.hops.proofs.search.is_hop.Goals as goal

pub join-requires : goal.join-requires
join-requires c = let a = c.args in (
  subst (AtMost 2147483647) (cell_is a.a.now (entry_place a.n a.i a.k) ∙ sym c.weight_at-x.ensures)
      (most_weaken arc_sum 2147483647 (matrix_in places a.n a.a.now a.i a.k) (omega arith) (formed_most arc_sum a.p a.n a.a.now (omega arith) c.requires.0.limits c.requires.0.arcs a.i a.k c.requires.1 c.requires.3)),
  subst (AtMost 2147483647) (cell_is a.r.now (entry_place a.n a.k a.j) ∙ sym c.weight_at-y.ensures)
      (most_weaken matrix_sum 2147483647 (matrix_in places a.n a.r.now a.k a.j) (omega arith) (formed_most matrix_sum a.p a.n a.r.now (omega arith) c.requires.0.limits c.requires.0.routes a.k a.j c.requires.3 c.requires.2)),
)

pub returns : goal.returns
returns c = let a = c.args in let x = c.weight_at-x in let y = c.weight_at-y in hop_other (places_of a.p) (matrix_in places a.n a.a.now) (matrix_in places a.n a.r.now) a.i a.j a.k (weight_of x.result) (weight_of y.result) (weight_of c.join.result) (weight_of a.route)
    c.if-k-i.false (x.ensures ∙ sym (cell_is a.a.now (entry_place a.n a.i a.k))) (y.ensures ∙ sym (cell_is a.r.now (entry_place a.n a.k a.j))) c.join.ensures c.requires.4 c.same.ensures
