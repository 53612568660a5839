-- The cases that the calls on a network share (01, "Refusal numbers"), those of a step list (13, 7), and the order in which every
-- call has them.
-- To be believed: all of it.
use Rattle.std.specs.Prelude.{ℕ, ◌+◌, ◌-◌, ◌*◌, ◌≤◌, ◌<◌, ◌≡◌, ◌⊎◌, Bool, ◌&&◌, ◌||◌, List, ◌∷◌, ◌++◌, leb, ltb, eqb, length}
use Rattle.refusals.specs.declared.Refusal.TheVariants.{Size, NoSuch, Length, Law, TooMany}
use Rattle.refusals.specs.Cases.{Case, due_unless, first_from, due_at_first}
use Rattle.weights.specs.declared.Component.{Component}
use Rattle.weights.specs.declared.Language.{Language}
use Rattle.weights.specs.Sizes.{weight_words, arc_sum, matrix_sum}
use Rattle.weights.specs.Laws.{LawD, LawU, test_d, test_u}
use Rattle.weights.specs.Languages.{components_of, language_cases}
use Rattle.matrices.specs.Buffers.{entries_case}
use Rattle.refusals.specs.Checks.{Check}

-- the most nodes of a network
abbrev pub most_nodes : ℕ
most_nodes = 16

-- the most steps of a list
abbrev pub most_steps : ℕ
most_steps = 4096

-- the number that settles column 0
abbrev pub first_settle : ℕ
first_settle = 256

-- ---- the cases

-- 3: n is not 1..16
abbrev pub nodes_case : ℕ → Case
nodes_case n = due_unless (leb 1 n && leb n most_nodes) ((1 ≤ n) × (n ≤ most_nodes)) (Size 1) 0

-- 9: the buffer has not the words of n x n weights
abbrev pub length_case : ℕ → ℕ → List ℕ → Case
length_case which n s = due_unless (eqb (length s) (n * (n * weight_words))) (length s ≡ n * (n * weight_words)) (Length which) 0

-- 10: law D fails over all weights
abbrev pub law_d_case : List Component → Case
law_d_case cs = due_unless (test_d cs) (LawD cs) (Law 1) 0

-- 10: law U does, which is told after D
abbrev pub law_u_case : List Component → Case
law_u_case cs = due_unless (test_u cs) (LawU cs) (Law 2) 0

-- 6 on A (buffer 1), whose sums are at most 65,535
abbrev pub arcs_case : List Component → ℕ → List ℕ → Case
arcs_case cs n a = entries_case 1 arc_sum cs n a

-- 6 on R (buffer 2), whose sums are at most 983,025
abbrev pub routes_case : List Component → ℕ → List ℕ → Case
routes_case cs n r = entries_case 2 matrix_sum cs n r

-- 13: over 4,096 steps
abbrev pub many_case : List ℕ → Case
many_case list = due_unless (leb (length list) most_steps) (length list ≤ most_steps) (TooMany 0) 0

-- a number of the list: 0..n-1 is a row step, 256..255+n settles a column
abbrev pub IsStep : ℕ → ℕ → Type 0
IsStep n x = (x < n) ⊎ ((first_settle ≤ x) × (x < first_settle + n))

-- the test of it
abbrev pub is_step : ℕ → ℕ → Bool
is_step n x = ltb x n || (leb first_settle x && ltb (x - first_settle) n)

-- 7: the first number of the list that is no step, by its index
abbrev pub list_case : ℕ → List ℕ → Case
list_case n list = due_at_first (is_step n) (IsStep n) (NoSuch 0) list

-- 7: the node that the call is given as argument number place is not 0..n-1
abbrev pub node_case : ℕ → ℕ → ℕ → Case
node_case place n i = due_unless (ltb i n) (i < n) (NoSuch 0) place

-- ---- a call on a network

-- 3, 5, 4, 9, 10, and what a call has besides; its sizes and its buffers' lengths are its own
abbrev pub call_cases : Language → List Case → List Case → List Case → List Case
call_cases l sizes lengths rest = sizes ++ (language_cases l ++ (lengths ++ law_d_case (components_of l) ∷ law_u_case (components_of l) ∷ rest))

-- ---- a list from a number on

-- 7's check of the rest of a list, whose first number is number k
abbrev pub steps_from : ℕ → ℕ → List ℕ → Check
steps_from n k list = first_from (is_step n) (NoSuch 0) k list
