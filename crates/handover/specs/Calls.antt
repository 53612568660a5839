-- The calls of a handover (01, "Forwarding and the next hop"): the cases in 01's order, which matrix lends, and the row lent.
-- To be believed: all of it. That `is_best` holds exactly where every entry is the best, and none malformed, is `test_exactly`
-- (handovers/proofs/Tested).
use Rattle.std.specs.Prelude.{ℕ, ◌+◌, ◌*◌, Bool, cond, List, [], ◌∷◌, take, drop, Result, Ok, Err}
use Rattle.refusals.specs.declared.Told.{Told}
use Rattle.refusals.specs.Told.{told, done}
use Rattle.algebra.specs.Best.{best}
use Rattle.weights.specs.Sizes.{weight_words}
use Rattle.weights.specs.Weights.{language}
use Rattle.weights.specs.Values.{same_values}
use Rattle.matrices.specs.Buffers.{matrix_words}
use Rattle.handover.specs.declared.Lender.{Lender}
use Rattle.handover.specs.declared.Lender.TheVariants.{Newer, Standing}
use Rattle.refusals.specs.declared.Refusal.{Refusal}
use Rattle.refusals.specs.Cases.{Case, check_of}
use Rattle.guards.specs.Checks.{arcs_case, length_case, node_case, nodes_case, call_cases}
use Rattle.refusals.specs.Checks.{answer_told, if_passed, Check}
use Rattle.guards.specs.OnNetwork.{components, arcs_on, OnNetwork}

-- ---- the checks

-- 3, 5, 4, 9 (A 1, the new matrix 2, the standing one 5), 10, 6 on A, 7 for i
abbrev pub handover_cases : OnNetwork → List ℕ → List ℕ → ℕ → List Case
handover_cases N standing newer i =
    call_cases N.language (nodes_case N.n ∷ []) (length_case 1 N.n N.arcs ∷ length_case 2 N.n newer ∷ length_case 5 N.n standing ∷ [])
    (arcs_case (components N) N.n N.arcs ∷ node_case 0 N.n i ∷ [])

-- the refusal that the second call tells, or that a row is lent
abbrev pub handover_check : OnNetwork → List ℕ → List ℕ → ℕ → Check
handover_check N standing newer i = check_of (handover_cases N standing newer i)

-- ---- which matrix lends

-- the words of the matrix of the best weights over paths that visit no node twice
abbrev pub best_words : OnNetwork → List ℕ
best_words N = matrix_words N.n (best (language (components N)) N.n (arcs_on N))

-- every entry of the matrix is the best: its words are those, so a malformed entry never is
abbrev pub is_best : OnNetwork → List ℕ → Bool
is_best N s = same_values s (best_words N)

-- the whole row of the answer: the refusal, and the number of the buffer that lends
pub record LenderRow : Type 0 where
  pub told : Told
  pub buffer : ℕ

-- the row that the call answers: its first refusal, else buffer 2 where every entry of the new matrix is the best, else the standing 5
abbrev pub lender_row : OnNetwork → List ℕ → List ℕ → ℕ → LenderRow
lender_row N standing newer i = record {
  told = answer_told (handover_check N standing newer i);
  buffer = if_passed (handover_check N standing newer i) (cond (is_best N newer) 2 5) 0;
}

-- what the code's answer says
abbrev pub lender_said : Result Lender Refusal → LenderRow
lender_said (Ok Newer) = record { told = done; buffer = 2 }
lender_said (Ok Standing) = record { told = done; buffer = 5 }
lender_said (Err x) = record { told = told x; buffer = 0 }

-- ---- the row that is lent

-- the words of row i
abbrev pub row_part : ℕ → ℕ → List ℕ → List ℕ
row_part n i s = take (n * weight_words) (drop (i * (n * weight_words)) s)

-- the words of the part that the call lends: of the new matrix's row where that is the best, else of the standing one's; none on refusal
abbrev pub lent_row : OnNetwork → List ℕ → List ℕ → ℕ → List ℕ
lent_row N standing newer i = if_passed (handover_check N standing newer i) (cond (is_best N newer) (row_part N.n i newer) (row_part N.n i standing)) []

-- ---- where it stands: lent and not copied

-- where row i of a matrix stands that begins at this block and byte; a word has four bytes
abbrev pub row_start : ℕ → ℕ → ℕ × ℕ → ℕ × ℕ
row_start n i start = (start.0, start.1 + i * (n * weight_words) * 4)

-- where the part that the call lends begins, given where the two matrices begin: in its own matrix; the empty part at the standing one's
-- beginning
abbrev pub lent_start : OnNetwork → List ℕ → List ℕ → ℕ → ℕ × ℕ → ℕ × ℕ → ℕ × ℕ
lent_start N standing newer i from_standing from_newer =
    if_passed (handover_check N standing newer i) (cond (is_best N newer) (row_start N.n i from_newer) (row_start N.n i from_standing)) from_standing
