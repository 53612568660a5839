-- What the inner functions say on the way to Records, and what a second pass relies on.
-- They join the code to Records; nothing here has to be believed.
use Rattle.std.specs.Prelude.{ℕ, ◌+◌, ◌*◌, ◌<◌, cond, List, eqb}
use Rattle.weights.specs.declared.Component.{Component}
use Rattle.weights.specs.declared.Language.{Language}
use Rattle.fields.specs.declared.Head.{Head}
use Rattle.records.specs.declared.Ends.{Ends}
use Rattle.records.specs.declared.Ends.TheVariants.{Arc, Attachment}
use Rattle.records.specs.declared.Listing.{Listing}
use Rattle.records.specs.Records.{length_of, ends_at}

-- the component at place k
abbrev pub component_at : Language → ℕ → Component
component_at l k = cond (eqb k 0) l.first (cond (eqb k 1) l.second (cond (eqb k 2) l.third l.fourth))

-- the ends of a record exist
abbrev pub InRange : Head → Ends → Type 0
InRange h (Arc from to) = (from.0 < h.n) × (to.0 < h.n)
InRange h (Attachment node to) = (node.0 < h.n) × (to.0 < h.m)

-- every record has its ends in the table
abbrev pub Listed : List ℕ → Head → Listing → ℕ → ℕ → Type 0
Listed s h list first count = (e : ℕ) → e < count → InRange h (ends_at s list (first + e * length_of h list))
