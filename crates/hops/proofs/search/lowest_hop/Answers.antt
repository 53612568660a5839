use mathlib.Core.Path.{sym, ◌∙◌}
use native.Mathlib.Omega.{arith}
use Rattle.weights.specs.Sizes.{places}
use Rattle.weights.specs.Languages.{places_of}
use Rattle.matrices.specs.Buffers.{matrix_in}
use Rattle.hops.specs.NextHop.{is_hop}
use Rattle.hops.proofs.Searching.{lowest_here, lowest_later, lowest_end}
use Rattle.hops.proofs.search.lowest_hop.Goals as goal

pub loop-k-preserved : goal.loop-k-preserved
loop-k-preserved c = let a = c.args in (
  omega arith,
  c.loop-k.invariant.1 ∙ lowest_later (is_hop (places_of a.p) (matrix_in places a.n a.a.now) (matrix_in places a.n a.r.now) a.i a.j) a.n c.loop-k.k (omega arith) (sym c.is_hop.ensures ∙ c.if-is_hop.false),
)

pub returns-then-n-k : goal.returns-then-n-k
returns-then-n-k c = let a = c.args in sym (c.loop-k.invariant.1 ∙ lowest_end (is_hop (places_of a.p) (matrix_in places a.n a.a.now) (matrix_in places a.n a.r.now) a.i a.j) a.n c.loop-k.k c.if-n-k.true)

pub returns-then-is_hop : goal.returns-then-is_hop
returns-then-is_hop c = let a = c.args in sym (c.loop-k.invariant.1 ∙ lowest_here (is_hop (places_of a.p) (matrix_in places a.n a.a.now) (matrix_in places a.n a.r.now) a.i a.j) a.n c.loop-k.k (omega arith) (sym c.is_hop.ensures ∙ c.if-is_hop.true))
