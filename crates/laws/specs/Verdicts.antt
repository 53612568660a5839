-- What a law report says of the language: the laws that hold, and the weights that break one.
-- To be believed: all of it. That the report says so is proofs/Exact.
use Rattle.std.specs.Prelude.{ℕ, ◌≡◌, true, List, ◌↔◌}
use Rattle.weights.specs.declared.Component.{Component}
use Rattle.weights.specs.Laws.{LawD, LawU, LawC}
use Rattle.laws.specs.declared.Law.{Law}
use Rattle.laws.specs.Report.{LawRow, value_words, law_of}

-- a law reported broken: the words are those of weights that break it
pub record Shown (row : LawRow) (s x y : List ℕ) (Breaks : Type 0) : Type 0 where
  pub s_words : row.s ≡ value_words s
  pub x_words : row.x ≡ value_words x
  pub y_words : row.y ≡ value_words y
  pub breaks : Breaks

-- the laws are reported held exactly where they hold over all weights
pub record LawsHold (cs : List Component) (d u c : Law) : Type 0 where
  pub holds_d : ((law_of d).held ≡ true) ↔ LawD cs
  pub holds_u : ((law_of u).held ≡ true) ↔ LawU cs
  pub holds_c : ((law_of c).held ≡ true) ↔ LawC cs
