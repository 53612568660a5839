-- What the theorems on routes are about: a lawful algebra, a number of nodes and a valid matrix of arcs.
-- To be believed: the record.
use Rattle.std.specs.Prelude.{ℕ}
use Rattle.algebra.specs.Algebra.{Algebra, Lawful}
use Rattle.algebra.specs.Path.{Matrix, ValidMatrix}

-- Arcs A between n nodes, of valid weights of an algebra that has what `Lawful` asks, laws D and U among it.
pub record Network : Type 1 where
  pub 𝓐 : Algebra
  pub 𝓛 : Lawful 𝓐
  pub n : ℕ
  pub A : Matrix 𝓐
  pub arcs_valid : ValidMatrix 𝓐 n A
