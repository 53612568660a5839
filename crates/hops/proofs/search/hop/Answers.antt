use mathlib.Core.Path.{sym, ◌∙◌}
use Rattle.weights.specs.Sizes.{places}
use Rattle.weights.specs.Languages.{places_of}
use Rattle.matrices.specs.Buffers.{entry_place, matrix_in}
use Rattle.matrices.proofs.Entries.{cell_is}
use Rattle.hops.proofs.Searching.{hop_none, hop_some}
use Rattle.hops.proofs.search.hop.Goals as goal

pub lowest_hop-requires : goal.lowest_hop-requires
lowest_hop-requires c = (c.requires.0, c.requires.1, c.requires.2, c.weight_at-route.ensures ∙ sym (cell_is c.args.r.now (entry_place c.args.n c.args.from.0 c.args.to.0)))

pub returns-in-Route : goal.returns-in-Route
returns-in-Route c = let a = c.args in let w = c.weight_at-route.ensures in hop_some (places_of a.p) a.n (matrix_in places a.n a.a.now) (matrix_in places a.n a.r.now) a.from.0 a.to.0 c.if-i-j.false
    ((rw c.in-Route.is at w) ∙ sym (cell_is a.r.now (entry_place a.n a.from.0 a.to.0))) c.lowest_hop.ensures

pub returns-in-NoRoute : goal.returns-in-NoRoute
returns-in-NoRoute c = let a = c.args in let w = c.weight_at-route.ensures in hop_none (places_of a.p) a.n (matrix_in places a.n a.a.now) (matrix_in places a.n a.r.now) a.from.0 a.to.0
    ((rw c.in-NoRoute.is at w) ∙ sym (cell_is a.r.now (entry_place a.n a.from.0 a.to.0)))
