use mathlib.Core.Path.{◌∙◌}
use Rattle.algebra.specs.Best.{best}
use Rattle.weights.specs.Sizes.{places}
use Rattle.weights.specs.Weights.{language}
use Rattle.weights.specs.Languages.{places_of}
use Rattle.matrices.specs.Buffers.{matrix_in}
use Rattle.holding.proofs.Words.{column_has_lem}
use Rattle.holding.proofs.comparing.column_best.Goals as goal

pub returns : goal.returns
returns c = let a = c.args in c.column_same.ensures ∙ column_has_lem a.n a.s.now _ _ (best (language (places_of a.p)) a.n (matrix_in places a.n a.a.now)) a.j c.settle_column.ensures
