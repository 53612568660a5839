-- The recipe of a repair: sweeping cannot change a matrix that satisfies the equation; settling makes it the best, from any matrix.
use Prim.Native.Nat.{ℕ, suc, ◌+◌, ◌*◌, ◌≤◌, ◌<◌}
use mathlib.Core.Path.{◌≡◌, refl, sym, ap, ap₂, subst, ◌∙◌}
use mathlib.Core.Bool.{Bool, true, false, cond}
use mathlib.Core.List.{List, [], ◌∷◌, map}
use native.Mathlib.Omega.{arith}
use lib.Dec.{eqb}
use lib.ListN.{length}
use borrow.Author.Tests.{lt-ltb}
use Rattle.refusals.specs.Told.{done}
use Rattle.refusals.proofs.First.{first_passes, if_passed_lem, both_pass}
use Rattle.algebra.specs.Path.{Mem}
use Rattle.algebra.specs.Best.{Best, best}
use Rattle.algebra.specs.Step.{Step, row, settle, routed, Solves, step, run}
use Rattle.algebra.proofs.Demands.{mem_split}
use Rattle.algebra.proofs.Reach.{run_append, settled_from_any}
use Rattle.algebra.proofs.Still.{Agree, routed_agree}
use Rattle.weights.specs.declared.Component.{Component}
use Rattle.weights.specs.Sizes.{weight_words, matrix_sum}
use Rattle.weights.specs.Weights.{language}
use Rattle.weights.specs.Languages.{SmallLimits}
use Rattle.weights.proofs.Checking.{few}
use Rattle.matrices.specs.Buffers.{matrix_words}
use Rattle.matrices.specs.Steps.{Matrix}
use Rattle.matrices.proofs.Entries.{matrix_cong, length_matrix}
use Rattle.guards.specs.Checks.{first_settle, many_case, list_case}
use Rattle.routes.specs.Calls.{step_of, step_fits, run_of, done_of, steps_check, ran_of, steps_row, steps_left, StepsRow, count_of, steps_cases, sum_check}
use Rattle.guards.proofs.Singles.{nodes_passed}
use Rattle.histories.specs.History.{BestColumn}
use Rattle.histories.proofs.Reached.{network, length_steps}
use Rattle.handover.specs.Calls.{best_words, is_best}
use Rattle.holding.proofs.Words.{words_exactly}
use Rattle.histories.proofs.Histories.{settle_number, mem_steps}
use Rattle.histories.proofs.Standing.{words_self, routes_formed}
use Rattle.handovers.specs.Handovers.{LawfulNetwork, RowsOnly, SettlesAll}
use Rattle.handovers.proofs.Tested.{call_lawful, net, entry_reads, only_best}
use Rattle.refusals.specs.Cases.{checks_of}
use Rattle.refusals.proofs.Cases.{done_check}
use Rattle.refusals.specs.Checks.{if_passed, Check}
use Rattle.routes.proofs.Answers.{row_by_lem}
use Rattle.histories.proofs.Exact.{steps_counted}
use Rattle.guards.specs.OnNetwork.{OnNetwork, components, matrix_on, arcs_on}
use Rattle.std.specs.Prelude.{Ok, Err}

-- ---- sweeping

module _ (cs : List Component) (n : ℕ) (A R : Matrix) (e : Solves (language cs) n A R) where
  -- no list of row steps changes a matrix that satisfies the equation, refused or not
  still : (rows : List ℕ) (T : Matrix) → Agree (language cs) n A T R → Agree (language cs) n A (run_of cs n A T (map row rows)) R
  unfolding run_of
  still [] T t = t
  still (u ∷ rows) T t = go (step_fits cs n A T (row u)) (still rows (step (language cs) n A (row u) T) stepped)
    where
      stepped : Agree (language cs) n A (step (language cs) n A (row u) T) R
      stepped i j hi hj = entry (eqb i u)
        where
          entry : (b : Bool) → cond b (routed (language cs) n A T i j) (T i j) ≡ R i j
          entry true = routed_agree (language cs) n A T R t i j hj ∙ sym (e i j hi hj)
          entry false = t i j hi hj

      go : (b : Bool) → Agree (language cs) n A (run_of cs n A (step (language cs) n A (row u) T) (map row rows)) R → Agree (language cs) n A (cond b (run_of cs n A (step (language cs) n A (row u) T) (map row rows)) T) R
      go true h = h
      go false h = t

row_steps : (n : ℕ) (list : List ℕ) → n ≤ 16 → RowsOnly n list → map step_of list ≡ map row list
row_steps n [] h r = refl
row_steps n (x ∷ list) h r = let k : x < n = r.0 in ap₂ (λ (s : Step) (t : List Step). s ∷ t) (rw (lt-ltb x first_settle (omega arith))) (row_steps n list h r.1)

-- A step call whose list has only row steps leaves a matrix that satisfies the equation as it is: sweeping never repairs it.
pub sweeping_never_repairs : (N : OnNetwork) (r list : List ℕ) → Solves (language (components N)) N.n (arcs_on N) (matrix_on N r) → RowsOnly N.n list → steps_left N r list ≡ r
sweeping_never_repairs N r list e rows = go (steps_check N r list) refl
  where
    passed : steps_check N r list ≡ Ok tt → matrix_words N.n (ran_of N r list) ≡ r
    passed p =
        let h = first_passes (checks_of (steps_cases N r list)) p in
        ap (λ (s : List Step). matrix_words N.n (run_of (components N) N.n (arcs_on N) (matrix_on N r) s)) (row_steps N.n list (nodes_passed N.n h.0).1 rows)
        ∙ matrix_cong N.n (run_of (components N) N.n (arcs_on N) (matrix_on N r) (map row list)) (matrix_on N r)
        (still (components N) N.n (arcs_on N) (matrix_on N r) e list (matrix_on N r) (λ i j hi hj. refl))
        ∙ words_self matrix_sum (components N) N.n r (few N.language) (routes_formed N r (many_case list ∷ list_case N.n list ∷ []) h)

    go : (c : Check) → steps_check N r list ≡ c → steps_left N r list ≡ r
    go (Ok _) p = ap (λ (c : Check). if_passed c (matrix_words N.n (ran_of N r list)) r) p ∙ passed p
    go (Err x) p = ap (λ (c : Check). if_passed c (matrix_words N.n (ran_of N r list)) r) p

-- ---- settling

-- a run that does every step is the steps' own
whole_run : (cs : List Component) (n : ℕ) (A R : Matrix) (steps : List Step) → done_of cs n A R steps ≡ length steps → run_of cs n A R steps ≡ run (language cs) n A steps R
unfolding run_of done_of
whole_run cs n A R [] e = refl
whole_run cs n A R (s ∷ steps) e = go (step_fits cs n A R s) e (whole_run cs n A (step (language cs) n A s R) steps)
  where
    go : (b : Bool) → cond b (suc (done_of cs n A (step (language cs) n A s R) steps)) 0 ≡ suc (length steps)
        → (done_of cs n A (step (language cs) n A s R) steps ≡ length steps → run_of cs n A (step (language cs) n A s R) steps ≡ run (language cs) n A steps (step (language cs) n A s R))
        → cond b (run_of cs n A (step (language cs) n A s R) steps) R ≡ run (language cs) n A steps (step (language cs) n A s R)
    go true q ih = ih (omega arith)
    go false q ih = absurd (omega arith)

module _ (N : OnNetwork) (r list : List ℕ) (limits : SmallLimits 65535 (components N)) (d : (steps_row N r list).told ≡ done) where
  open N use {n, arcs}

  abbrev cs : List Component
  cs = components N

  abbrev A : Matrix
  A = arcs_on N

  abbrev R : Matrix
  R = matrix_on N r

  abbrev steps : List Step
  steps = map step_of list

  -- a call that is done has passed its checks and done every step
  passed : steps_check N r list ≡ Ok tt
  passed = (both_pass (steps_check N r list) (sum_check (count_of N r list) (length list)) ((done_check _).0 (sym (ap (λ (w : StepsRow). w.told) (row_by_lem N r list refl)) ∙ d))).0

  whole : done_of cs n A R steps ≡ length steps
  whole = sym (if_passed_lem (done_of cs n A R steps) 0 passed) ∙ (steps_counted N r list).whole d ∙ sym (length_steps list)

  pub steps_lawful : LawfulNetwork N
  steps_lawful = call_lawful N r (many_case list ∷ list_case n list ∷ []) limits passed

  -- the buffer holds what the steps leave, as long as before
  left : steps_left N r list ≡ matrix_words n (run (language cs) n A steps R)
  left = ap (λ (c : Check). if_passed c (matrix_words n (run_of cs n A R steps)) r) passed ∙ ap (matrix_words n) (whole_run cs n A R steps whole)

  pub left_long : length (steps_left N r list) ≡ n * (n * weight_words)
  left_long = ap length left ∙ length_matrix n (run (language cs) n A steps R)

  column : (j : ℕ) → Mem (first_settle + j) list → (i : ℕ) → i < n → Best (language cs) n A i j (run (language cs) n A steps R i j)
  unfolding net network
  column j m i hi =
      let (s, t, e) = mem_split (settle j) steps (subst (λ (x : Step). Mem x steps) (settle_number j) (mem_steps (first_settle + j) list m)) in
      subst (λ (w : List Step). Best (language cs) n A i j (run (language cs) n A w R i j)) (sym e)
      (subst (λ (T : Matrix). Best (language cs) n A i j (T i j)) (sym (run_append (language cs) n A s (settle j ∷ t) R)) (settled_from_any (net N steps_lawful) (run (language cs) n A s R) j t i hi))

  entry : (i j : ℕ) → i < n → Mem (first_settle + j) list → run (language cs) n A steps R i j ≡ best (language cs) n A i j
  entry i j hi m = only_best N steps_lawful i j hi (run (language cs) n A steps R i j) (column j m i hi)

  -- From any matrix that passes the checks: a done call whose list settles column j leaves the best there.
  pub settled_column : (j : ℕ) → j < n → Mem (first_settle + j) list → BestColumn N (steps_left N r list) j
  settled_column j hj m i hi =
      subst (Best (language cs) n A i j) (entry i j hi m ∙ sym (entry_reads N steps_lawful (run (language cs) n A steps R) i j hi hj (entry i j hi m)) ∙ sym (ap (λ (s : List ℕ). matrix_on N s i j) left)) (column j m i hi)

  -- A done call that settles every column leaves the best matrix, whatever the buffer held before.
  pub settling_repairs : SettlesAll n list → steps_left N r list ≡ best_words N
  settling_repairs all = left ∙ matrix_cong n (run (language cs) n A steps R) (best (language cs) n A) (λ i j hi hj. entry i j hi (all j hj))

  -- So it passes the test of a handover.
  pub settled_is_best : SettlesAll n list → is_best N (steps_left N r list) ≡ true
  settled_is_best all = (words_exactly (steps_left N r list) (best_words N)).1 (settling_repairs all)
