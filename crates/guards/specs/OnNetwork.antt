-- What every call on a network is given: its language, its number of nodes and the words of A; and the matrices that buffers hold there.
-- To be believed: all of it.
use Rattle.std.specs.Prelude.{ℕ, List, length}
use Rattle.weights.specs.declared.Component.{Component}
use Rattle.weights.specs.declared.Language.{Language}
use Rattle.weights.specs.Languages.{components_of}
use Rattle.matrices.specs.Buffers.{matrix_in}
use Rattle.matrices.specs.Steps.{Matrix}

-- a language, n, and the words of A
pub record OnNetwork : Type 0 where
  pub language : Language
  pub n : ℕ
  pub arcs : List ℕ

-- the arguments of a call as one
abbrev pub on_network : Language → ℕ → List ℕ → OnNetwork
on_network l n a = record { language = l; n = n; arcs = a }

-- the components of the language
abbrev pub components : OnNetwork → List Component
components N = components_of N.language

-- the n x n matrix that a buffer holds, in the language
abbrev pub matrix_on : OnNetwork → List ℕ → Matrix
matrix_on N s = matrix_in (length (components N)) N.n s

-- A
abbrev pub arcs_on : OnNetwork → Matrix
arcs_on N = matrix_on N N.arcs
