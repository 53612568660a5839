-- The call `next_hop`: its cases in 01's order, and its answer.
-- To be believed: all of it.
use Rattle.std.specs.Prelude.{ℕ, List, [], ◌∷◌, Result, Ok, Err, None, Option}
use Rattle.refusals.specs.declared.Told.{Told}
use Rattle.refusals.specs.Told.{told, done}
use Rattle.routes.specs.Calls.{matrices_cases}
use Rattle.hops.specs.NextHop.{hop_of, found_at}
use Rattle.refusals.specs.Cases.{Case, check_of}
use Rattle.refusals.specs.Checks.{answer_told, if_passed, Check}
use Rattle.guards.specs.Checks.{node_case}
use Rattle.guards.specs.OnNetwork.{OnNetwork, components, matrix_on, arcs_on}
use Rattle.numbers.specs.declared.Node.{Node}
use Rattle.refusals.specs.declared.Refusal.{Refusal}

-- 3, 5, 4, 9 (A, R), 10, 6 on A, R, 7 for i, then for j
abbrev pub hop_cases : OnNetwork → List ℕ → ℕ → ℕ → List Case
hop_cases N r i j = matrices_cases N r (node_case 0 N.n i ∷ node_case 1 N.n j ∷ [])

-- the first refusal of these
abbrev pub hop_check : OnNetwork → List ℕ → ℕ → ℕ → Check
hop_check N r i j = check_of (hop_cases N r i j)

-- the whole row of the answer: the refusal, and the node, if there is one
pub record HopRow : Type 0 where
  pub told : Told
  pub node : Option ℕ

-- the row that the call answers: its first refusal, else done with the next hop from i to j or none
abbrev pub hop_row : OnNetwork → List ℕ → ℕ → ℕ → HopRow
hop_row N r i j = record {
  told = answer_told (hop_check N r i j);
  node = if_passed (hop_check N r i j) (hop_of (components N) N.n (arcs_on N) (matrix_on N r) i j) None;
}

-- what the code's answer says
abbrev pub hop_said : Result (Option Node) Refusal → HopRow
hop_said (Ok found) = record { told = done; node = found_at found }
hop_said (Err x) = record { told = told x; node = None }
