-- Demand 3 about calls: histories of a done fresh call and then step calls with the same language, n and A.
-- To be believed: all of it. That every history meets it is the theorem `history_demand_3` (proofs/Histories).
use Rattle.std.specs.Prelude.{ℕ, suc, ◌+◌, ◌≤◌, ◌<◌, ◌≡◌, false, cond, List, [], ◌∷◌, ◌++◌, map, eqb, length, Ok}
use Rattle.refusals.specs.Told.{done}
use Rattle.refusals.specs.Cases.{check_of}
use Rattle.algebra.specs.Path.{Mem}
use Rattle.algebra.specs.Best.{Best, best}
use Rattle.algebra.specs.Step.{Stretches, reached}
use Rattle.weights.specs.Weights.{better, language}
use Rattle.weights.specs.Languages.{SmallLimits}
use Rattle.matrices.specs.Buffers.{matrix_words}
use Rattle.guards.specs.Checks.{first_settle, length_case, arcs_case, many_case, list_case}
use Rattle.routes.specs.Calls.{fresh_check, fresh_left, step_of, steps_check, steps_row, steps_left}
use Rattle.guards.specs.OnNetwork.{OnNetwork, components, matrix_on, arcs_on}

-- a done call adds its list, a refused one nothing
abbrev pub added_by : OnNetwork → List ℕ → List ℕ → List ℕ
added_by N r list = cond (eqb (steps_row N r list).told.number 0) list []

-- what the buffer r holds after step calls with these lists, one after another
unfoldable pub after_calls : OnNetwork → List ℕ → List (List ℕ) → List ℕ
after_calls N r [] = r
after_calls N r (list ∷ lists) = after_calls N (steps_left N r list) lists

-- the steps so far: the lists of the done calls, joined
unfoldable pub so_far : OnNetwork → List ℕ → List (List ℕ) → List ℕ
so_far N r [] = []
so_far N r (list ∷ lists) = added_by N r list ++ so_far N (steps_left N r list) lists

-- A fresh call on r was done, A passes its checks, and limits are 16-bit numbers.
pub record HistoryBegun (N : OnNetwork) (r : List ℕ) : Type 0 where
  pub fresh_done : fresh_check N.language N.n r ≡ Ok tt
  pub arcs_long : (length_case 1 N.n N.arcs).check ≡ Ok tt
  pub arcs_formed : (arcs_case (components N) N.n N.arcs).check ≡ Ok tt
  pub limits : SmallLimits 65535 (components N)

-- column j of the matrix in s holds the best weights over paths that visit no node twice
abbrev pub BestColumn : OnNetwork → List ℕ → ℕ → Type 0
BestColumn N s j = (i : ℕ) → i < N.n → Best (language (components N)) N.n (arcs_on N) i j (matrix_on N s i j)

module _ (N : OnNetwork) (r : List ℕ) where
  open N use {n}

  -- what the buffer holds after the fresh call and step calls with these lists
  abbrev pub held : List (List ℕ) → List ℕ
  held lists = after_calls N (fresh_left N.language n r) lists

  -- the steps so far: those of the done calls among these lists, after the fresh call
  abbrev pub ran : List (List ℕ) → List ℕ
  ran lists = so_far N (fresh_left N.language n r) lists

  -- Demand 3, of the history with these lists.
  pub record HistoryDemand3 (lists : List (List ℕ)) : Type 0 where
    -- the buffer holds what the steps so far reach from fresh
    pub reaches : held lists ≡ matrix_words n (reached (language (components N)) n (arcs_on N) (map step_of (ran lists)))
    -- (1) no entry is better than the best
    pub never_better : (i j : ℕ) → i < n → j < n → better (components N) (matrix_on N (held lists) i j) (best (language (components N)) n (arcs_on N) i j) ≡ false
    -- (2) no later buffer of it has a worse entry
    pub never_worse : (more : List (List ℕ)) (i j : ℕ) → i < n → j < n → better (components N) (matrix_on N (held lists) i j) (matrix_on N (held (lists ++ more)) i j) ≡ false
    -- (3) a column settled anywhere in the steps so far holds the best
    pub settled : (j : ℕ) → j < n → Mem (first_settle + j) (ran lists) → BestColumn N (held lists) j
    -- (4) so does every column once they contain n - 1 stretches, which may span calls
    pub swept : (m : ℕ) → n ≤ suc m → Stretches n m (map step_of (ran lists)) → (j : ℕ) → j < n → BestColumn N (held lists) j
    -- (5) a further call can only be refused 13 or 7 ..
    pub refuses : (list : List ℕ) → steps_check N (held lists) list ≡ check_of (many_case list ∷ list_case n list ∷ [])
    -- .. and is done with its whole list otherwise: 11 is never given
    pub whole : (list : List ℕ) → steps_check N (held lists) list ≡ Ok tt → steps_row N (held lists) list ≡ record { told = done; done = length list }
    -- (6) one done call with xs and then ys leaves what the call with xs and then the call with ys leave
    pub joined : (xs ys : List ℕ) → steps_check N (held lists) (xs ++ ys) ≡ Ok tt → held (lists ++ (xs ++ ys) ∷ []) ≡ held (lists ++ xs ∷ ys ∷ [])
