-- A column that holds the best keeps it, while A stays, through every further step call: done, refused, or stopped by 11.
use Prim.Native.Nat.{ℕ, ◌+◌, ◌<◌}
use mathlib.Core.Path.{◌≡◌, refl, sym, subst}
use mathlib.Core.Bool.{Bool, true, false, cond}
use mathlib.Core.List.{List, [], ◌∷◌, map}
use lib.Dec.{eqb}
use Rattle.refusals.specs.Told.{done}
use Rattle.algebra.specs.Path.{Mem}
use Rattle.algebra.specs.Best.{Best, best}
use Rattle.algebra.specs.Step.{Step, row, settle, routed, step}
use Rattle.algebra.specs.Demand.{HoldsBest}
use Rattle.algebra.proofs.Reach.{column_solves}
use Rattle.weights.specs.declared.Component.{Component}
use Rattle.weights.specs.Weights.{language}
use Rattle.weights.specs.Languages.{SmallLimits}
use Rattle.matrices.specs.Buffers.{matrix_words}
use Rattle.matrices.specs.Steps.{Matrix}
use Rattle.guards.specs.Checks.{first_settle, many_case, list_case}
use Rattle.routes.specs.Calls.{step_of, step_fits, run_of, steps_check, steps_row, steps_left}
use Rattle.histories.specs.History.{after_calls, BestColumn}
use Rattle.histories.proofs.Reached.{network}
use Rattle.handovers.specs.Handovers.{LawfulNetwork}
use Rattle.handovers.proofs.Tested.{call_lawful, net, is_best_lem, only_best, entry_reads}
use Rattle.handovers.proofs.Recipe.{settled_column}
use Rattle.refusals.specs.Checks.{if_passed, Check}
use Rattle.guards.specs.OnNetwork.{OnNetwork, components, matrix_on, arcs_on}
use Rattle.std.specs.Prelude.{Ok, Err}

module _ (N : OnNetwork) (j : ℕ) where
  open N use {n, arcs}

  abbrev cs : List Component
  cs = components N

  abbrev A : Matrix
  A = arcs_on N

  -- column j of a matrix holds the best
  abbrev Holds : Matrix → Type 0
  Holds R = HoldsBest (language cs) n A R j

  module _ (g : LawfulNetwork N) where
    -- the best solves the equation of its column
    solved : (R : Matrix) → Holds R → (i : ℕ) → i < n → R i j ≡ routed (language cs) n A R i j
    unfolding net network
    solved R b i hi = column_solves (net N g) R j b i hi

    -- so a row step stores the best again; a settle stores it, or leaves the column alone
    step_keeps : (s : Step) (R : Matrix) → Holds R → Holds (step (language cs) n A s R)
    step_keeps (row u) R b i hi = go (eqb i u)
      where
        go : (t : Bool) → Best (language cs) n A i j (cond t (routed (language cs) n A R i j) (R i j))
        go true = subst (Best (language cs) n A i j) (solved R b i hi) (b i hi)
        go false = b i hi
    step_keeps (settle k) R b i hi = go (eqb j k)
      where
        go : (t : Bool) → Best (language cs) n A i j (cond t (best (language cs) n A i j) (R i j))
        go true = is_best_lem N g i j hi
        go false = b i hi

    -- the same of a run, however far it goes
    run_keeps : (steps : List Step) (R : Matrix) → Holds R → Holds (run_of cs n A R steps)
    unfolding run_of
    run_keeps [] R b = b
    run_keeps (s ∷ steps) R b = go (step_fits cs n A R s) (run_keeps steps (step (language cs) n A s R) (step_keeps s R b))
      where
        go : (t : Bool) → Holds (run_of cs n A (step (language cs) n A s R) steps) → Holds (cond t (run_of cs n A (step (language cs) n A s R) steps) R)
        go true h = h
        go false h = b

    -- .. and of its words
    words_keep : (R : Matrix) → j < n → Holds R → BestColumn N (matrix_words n R) j
    words_keep R hj b i hi = subst (Best (language cs) n A i j) (sym (entry_reads N g R i j hi hj (only_best N g i j hi (R i j) (b i hi)))) (is_best_lem N g i j hi)

  module _ (limits : SmallLimits 65535 cs) (hj : j < n) where
    -- A step call with any list leaves a column that holds the best as one that holds it: done, refused, or stopped by 11.
    pub stays_best : (r list : List ℕ) → BestColumn N r j → BestColumn N (steps_left N r list) j
    stays_best r list b = go (steps_check N r list) refl
      where
        go : (c : Check) → steps_check N r list ≡ c → BestColumn N (if_passed c (matrix_words n (run_of cs n A (matrix_on N r) (map step_of list))) r) j
        go (Ok tt) p =
            let g = call_lawful N r (many_case list ∷ list_case n list ∷ []) limits p in
            words_keep g (run_of cs n A (matrix_on N r) (map step_of list)) hj (run_keeps g (map step_of list) (matrix_on N r) b)
        go (Err x) p = b

    -- So do any number of them.
    pub stays_best_after : (r : List ℕ) (lists : List (List ℕ)) → BestColumn N r j → BestColumn N (after_calls N r lists) j
    unfolding after_calls
    stays_best_after r [] b = b
    stays_best_after r (list ∷ lists) b = stays_best_after (steps_left N r list) lists (stays_best r list b)

    -- From any matrix: after a done call that settles column j, and any further step calls, it holds the best.
    pub settled_stays : (r list : List ℕ) (lists : List (List ℕ)) → (steps_row N r list).told ≡ done → Mem (first_settle + j) list → BestColumn N (after_calls N r (list ∷ lists)) j
    unfolding after_calls
    settled_stays r list lists d m = stays_best_after (steps_left N r list) lists (settled_column N r list limits d j hj m)
