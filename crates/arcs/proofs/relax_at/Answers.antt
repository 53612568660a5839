use mathlib.Core.Path.{sym, ◌∙◌}
use Rattle.weights.specs.Languages.{places_of}
use Rattle.matrices.proofs.Entries.{relax_put, relax_keep, relax_lose}
use Rattle.arcs.proofs.relax_at.Goals as goal

pub returns-then-is_lost : goal.returns-then-is_lost
returns-then-is_lost c = relax_lose (places_of c.args.p) c.args.row.now c.args.at _ _ _ c.requires.0 c.weight_at-old.ensures (c.is_lost.ensures c.if-is_lost.true)

pub returns-then-better : goal.returns-then-better
returns-then-better c = c.write_at.ensures
    ∙ relax_put (places_of c.args.p) c.args.row.now c.args.at _ _ _ c.requires.0 c.join_arc-z.ensures c.weight_at-old.ensures (sym c.better.ensures ∙ c.if-better.true)

pub returns-else-better : goal.returns-else-better
returns-else-better c = relax_keep (places_of c.args.p) c.args.row.now c.args.at _ _ _ c.requires.0 c.join_arc-z.ensures c.weight_at-old.ensures (sym c.better.ensures ∙ c.if-better.false)
