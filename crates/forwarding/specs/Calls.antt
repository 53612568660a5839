-- The call forward (01, "Forwarding and the next hop"): what it is given, its cases in 01's order, its answer, and what its buffer
-- holds then.
-- To be believed: all of it.
use Rattle.std.specs.Prelude.{ℕ, ◌≡◌, List, [], ◌∷◌, length}
use Rattle.refusals.specs.Checks.{answer_told, if_passed, Check}
use Rattle.refusals.specs.Cases.{Case, check_of}
use Rattle.algebra.specs.Modes.{forwarded}
use Rattle.weights.specs.declared.Component.{Component}
use Rattle.weights.specs.Weights.{language}
use Rattle.matrices.specs.Steps.{Matrix}
use Rattle.modes.specs.declared.Mode.{Mode}
use Rattle.modes.specs.Entries.{Entry, mode_for, mode_of}
use Rattle.tables.specs.Tables.{table_words, table_in}
use Rattle.guards.specs.Checks.{nodes_case, length_case, arcs_case, routes_case, call_cases}
use Rattle.guards.specs.OnNetwork.{OnNetwork, components, matrix_on}
use Rattle.table_guards.specs.Checks.{chosen_mode, destinations_case, mode_case, table_length_case, law_c_case, mapping_case, solves_case}

-- ---- what the call is given

-- a network, m, the number of the mode, and the words of R and M
pub record OnTables : Type 0 where
  pub network : OnNetwork
  pub m : ℕ
  pub mode : ℕ
  pub routes : List ℕ
  pub mapping : List ℕ

-- the arguments of the call as one
abbrev pub on_tables : OnNetwork → ℕ → ℕ → List ℕ → List ℕ → OnTables
on_tables N m mode r mapping = record { network = N; m = m; mode = mode; routes = r; mapping = mapping }

module _ (T : OnTables) where
  open T use {network, m, mode, routes, mapping}
  open network use {n, arcs}

  -- the components of the language
  abbrev cs : List Component
  cs = components network

  -- the mode that the number means with the language and m destinations
  abbrev pub mode_meant : Mode
  mode_meant = chosen_mode (mode_for cs m mode)

  -- the table of m destinations that a buffer holds, in the language
  abbrev pub table_of : List ℕ → ℕ → ℕ → Entry
  table_of s = table_in (length cs) m s

  -- R
  abbrev pub routes_on : Matrix
  routes_on = matrix_on network routes

  -- M
  abbrev pub mapping_on : ℕ → ℕ → Entry
  mapping_on = table_of mapping

  -- ---- the call, which writes f

  -- 3 on n, m and the mode, 5, 4, 9 (A, R, M, F), 10, 6 on A, R, M, 12
  abbrev pub forward_cases : List ℕ → List Case
  forward_cases f =
      call_cases network.language (nodes_case n ∷ destinations_case m ∷ mode_case cs m mode ∷ [])
      (length_case 1 n arcs ∷ length_case 2 n routes ∷ table_length_case 3 n m mapping ∷ table_length_case 4 n m f ∷ [])
      (law_c_case mode mode_meant cs ∷ arcs_case cs n arcs ∷ routes_case cs n routes ∷ mapping_case mode_meant cs n m mapping ∷ solves_case cs n arcs routes ∷ [])

  -- the refusal that the call answers, or that it is done
  abbrev pub forward_check : List ℕ → Check
  forward_check f = check_of (forward_cases f)

  -- the forwarding sum, in the mode that the number means: F(i,d) is the best over k of R(i,k) applied to M(k,d)
  abbrev pub forwarding_sum : ℕ → ℕ → Entry
  forwarding_sum = forwarded (language cs) (mode_of mode_meant cs) n routes_on mapping_on

  -- what the call leaves in f: the table of the forwarding sum; on refusal f as it was
  abbrev pub forward_left : List ℕ → List ℕ
  forward_left f = if_passed (forward_check f) (table_words n m forwarding_sum) f

  -- what the contract of forward says of an answer and of what the buffer holds then
  pub record Meets (f : List ℕ) (x : Check) (left : List ℕ) : Type 0 where
    pub answer : answer_told x ≡ answer_told (forward_check f)
    pub buffer : left ≡ forward_left f
