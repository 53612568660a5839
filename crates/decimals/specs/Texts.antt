-- Text in a byte buffer: what a function that puts text says of it.
-- To be believed: `holds` and `ends`; the other two follow and serve callers.
use Rattle.std.specs.Prelude.{ℕ, ◌+◌, ◌≤◌, ◌≡◌, List, length}
use Rattle.std.proofs.lemmas.List.Edits.{sets}

-- A text of at most `most` bytes stands from `at` on, before `end`, and the rest of the buffer is as it was.
pub record Put (most : ℕ) (before : List ℕ) (at : ℕ) (text after : List ℕ) (end : ℕ) : Type 0 where
  pub holds : after ≡ sets before at text
  pub ends : end ≡ at + length text
  pub near : end ≤ at + most
  pub long : length after ≡ length before
