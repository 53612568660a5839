use mathlib.Core.Path.{sym, ◌∙◌}
use Rattle.weights.specs.Values.{weight_of}
use Rattle.weights.proofs.Compared.{same_exactly}
use Rattle.matrices.proofs.Entries.{cell_is, keep_is}
use Rattle.columns.proofs.settling.put.Goals as goal

pub returns-then-same-clause-entries_after : goal.returns-then-same-clause-entries_after
returns-then-same-clause-entries_after c =
    keep_is c.args.entries.now c.args.at (weight_of c.args.w) c.requires
    ((same_exactly (weight_of c.args.w) _).0 (sym c.same.ensures ∙ c.if-same.true) ∙ c.weight_at.ensures ∙ sym (cell_is c.args.entries.now c.args.at))
