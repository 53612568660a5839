-- What the inner functions say on the way to Contents: where a record is stored.
-- It joins the code to Contents; nothing here has to be believed.
use Rattle.std.specs.Prelude.{ℕ, ◌+◌, ◌*◌}
use Rattle.weights.specs.Sizes.{weight_words, entry_words}
use Rattle.fields.specs.declared.Head.{Head}
use Rattle.records.specs.declared.Ends.{Ends}
use Rattle.records.specs.declared.Ends.TheVariants.{Arc, Attachment}

-- the place of a record's first word
abbrev pub place_of : Head → Ends → ℕ
place_of h (Arc from to) = from.0 * (h.n * weight_words) + to.0 * weight_words
place_of h (Attachment node to) = node.0 * (h.m * entry_words) + to.0 * entry_words
