-- What is said of handovers: when every entry is the best, lists of steps that repair a matrix or cannot, and why the equation
-- alone is not enough.
-- To be believed: all of it. The theorems are in proofs/Tested, Recipe, Stays, Lent, Settles and Worked.
use Rattle.std.specs.Prelude.{ℕ, zero, suc, ◌+◌, ◌≤◌, ◌<◌, ◌≡◌, List, [], ◌∷◌, ◌++◌, Ok}
use Rattle.algebra.specs.Path.{Mem}
use Rattle.algebra.specs.Best.{Best}
use Rattle.algebra.specs.Step.{Solves}
use Rattle.weights.specs.Sizes.{matrix_sum}
use Rattle.weights.specs.Weights.{language}
use Rattle.weights.specs.Languages.{count_case, limit_case, SmallLimits}
use Rattle.matrices.specs.Buffers.{Formed}
use Rattle.guards.specs.Checks.{first_settle, nodes_case, length_case, law_d_case, law_u_case, arcs_case}
use Rattle.handover.specs.Calls.{handover_check, row_part, lent_row}
use Rattle.guards.specs.OnNetwork.{OnNetwork, components, matrix_on, arcs_on}

-- every entry of the matrix in s is the best weight over paths that visit no node twice, and none is malformed
pub record EveryEntryBest (N : OnNetwork) (s : List ℕ) : Type 0 where
  pub formed : Formed matrix_sum (components N) N.n s
  pub best : (i j : ℕ) → i < N.n → j < N.n → Best (language (components N)) N.n (arcs_on N) i j (matrix_on N s i j)

-- every number of the list is a row step
abbrev pub RowsOnly : ℕ → List ℕ → Type 0
RowsOnly n [] = Unit {0}
RowsOnly n (x ∷ list) = (x < n) × RowsOnly n list

-- every number of the list is a settle
abbrev pub SettlesOnly : ℕ → List ℕ → Type 0
SettlesOnly n [] = Unit {0}
SettlesOnly n (x ∷ list) = ((first_settle ≤ x) × (x < first_settle + n)) × SettlesOnly n list

-- the n settles, 256 to 255 + n, in order
abbrev pub settles : ℕ → List ℕ
settles zero = []
settles (suc n) = settles n ++ ((first_settle + n) ∷ [])

-- the list settles every column, in any order, with any other steps before, between and after
abbrev pub SettlesAll : ℕ → List ℕ → Type 0
SettlesAll n list = (j : ℕ) → j < n → Mem (first_settle + j) list

-- what the checks of every call on A give: a lawful language whose limits are 16-bit numbers, n, and well-formed arcs
pub record LawfulNetwork (N : OnNetwork) : Type 0 where
  pub nodes : (nodes_case N.n).check ≡ Ok tt
  pub count : (count_case N.language).check ≡ Ok tt
  pub sound : (limit_case N.language).check ≡ Ok tt
  pub long : (length_case 1 N.n N.arcs).check ≡ Ok tt
  pub law_d_holds : (law_d_case (components N)).check ≡ Ok tt
  pub law_u_holds : (law_u_case (components N)).check ≡ Ok tt
  pub arcs : (arcs_case (components N) N.n N.arcs).check ≡ Ok tt
  pub limits : SmallLimits 65535 (components N)

-- "Satisfying the routing equation is not enough": the new matrix satisfies it, yet the standing row is lent, which is another
pub record NotEnough (N : OnNetwork) (standing newer : List ℕ) (i : ℕ) : Type 0 where
  pub passes : handover_check N standing newer i ≡ Ok tt
  pub satisfies : Solves (language (components N)) N.n (arcs_on N) (matrix_on N newer)
  pub lends : lent_row N standing newer i ≡ row_part N.n i standing
  pub another : row_part N.n i newer ≡ row_part N.n i standing → ⊥
