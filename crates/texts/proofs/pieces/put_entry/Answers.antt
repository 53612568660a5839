use mathlib.Core.List.{[], ◌∷◌}
use lib.ListN.{take}
use Rattle.texts.proofs.Composing.{put_outside}
use Rattle.texts.proofs.pieces.put_entry.Goals as goal

pub returns-else-mode-eq-PLAIN : goal.returns-else-mode-eq-PLAIN
returns-else-mode-eq-PLAIN c = rw c.in-Mapped.is
    (put_outside c.args.mode c.in-Mapped.t (take c.args.count (c.in-Mapped.first ∷ c.in-Mapped.second ∷ c.in-Mapped.third ∷ c.in-Mapped.fourth ∷ [])) c.put_values-end.ensures c.if-mode-eq-PLAIN.false c.put_field.ensures)
