-- The definition of a language in a file once more, with any answer where the fuel ends.
-- To be believed: that it is `language_from` (Nested) but for its first line. That no file comes to that line is `end_unmet`
-- (proofs/Fuel).
use Rattle.std.specs.Prelude.{ℕ, zero, suc, ◌+◌, List, cond, leb, eqb, length, get_or, Result, Err}
use Rattle.refusals.specs.declared.Refusal.TheVariants.{Bytes, BadCount}
use Rattle.weights.specs.Sizes.{product_tags}
use Rattle.fields.specs.declared.Found.{Found}
use Rattle.fields.specs.Nested.{with_tag, product_tag, component_read, after}
use Rattle.fields.specs.declared.Taken.{Taken}
use Rattle.refusals.specs.declared.Refusal.{Refusal}

-- one language, and x where the fuel ends
unfoldable pub ending_with : (ℕ → Found → Result Taken Refusal) → ℕ → List ℕ → ℕ → Found → Result Taken Refusal
ending_with x zero s at f = x at f
ending_with x (suc fuel) s at f =
    cond (leb (length s) at) (Err (Bytes 0 at))
    (cond (eqb (get_or s at 0) product_tag)
    (cond (leb product_tags f.tags) (Err (BadCount 0 at)) (after (ending_with x fuel s (at + 1) (with_tag f)) (ending_with x fuel s)))
    (component_read s at f))
