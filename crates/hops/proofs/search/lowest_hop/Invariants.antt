use Prim.Native.Nat.{◌-◌, ◌≤◌}
use mathlib.Core.Path.{◌≡◌}
use Rattle.weights.specs.Sizes.{places}
use Rattle.weights.specs.Languages.{places_of}
use Rattle.matrices.specs.Buffers.{matrix_in}
use Rattle.hops.specs.NextHop.{is_hop, lowest_from}
use Rattle.hops.proofs.search.lowest_hop.Given as goal

abbrev pub invariant-loop-k : goal.invariant-loop-k
invariant-loop-k l = (l.k ≤ l.n) × (lowest_from (is_hop (places_of l.p) (matrix_in places l.n l.a) (matrix_in places l.n l.r) l.i l.j) 0 l.n ≡ lowest_from (is_hop (places_of l.p) (matrix_in places l.n l.a) (matrix_in places l.n l.r) l.i l.j) l.k (l.n - l.k))

abbrev pub decreases-loop-k : goal.decreases-loop-k
decreases-loop-k l = l.n - l.k
