-- Every history of calls meets demand 3.
use Prim.Native.Nat.{ℕ, ◌+◌, ◌-◌, ◌≤◌, ◌<◌}
use mathlib.Core.Path.{◌≡◌, refl, sym, ap, ap₂, subst, ◌∙◌}
use mathlib.Core.Bool.{true, false, cond}
use mathlib.Core.List.{List, [], ◌∷◌, ◌++◌, map, append_assoc, append-nil}
use mathlib.Core.Logic.{inl, inr}
use native.Mathlib.Omega.{arith}
use lib.Dec.{eqb}
use lib.ListN.{length, length-append}
use borrow.Author.Tests.{le-ltb}
use Rattle.refusals.specs.declared.Refusal.{Refusal}
use Rattle.refusals.specs.Told.{done}
use Rattle.refusals.specs.Checks.{if_passed, Check}
use Rattle.refusals.proofs.OneToOne.{number_some}
use Rattle.refusals.proofs.First.{first_passes, pass_first, unless_passes, if_passed_lem}
use Rattle.algebra.specs.Network.{Network}
use Rattle.algebra.specs.Path.{Mem}
use Rattle.algebra.specs.Best.{Best, best}
use Rattle.algebra.specs.Step.{Step, settle, reached, fresh}
use Rattle.algebra.specs.Demand.{Demand3}
use Rattle.algebra.proofs.Reach.{never_worse}
use Rattle.algebra.proofs.Demands.{demand_3}
use Rattle.weights.specs.declared.Component.{Component}
use Rattle.weights.specs.Sizes.{arc_sum, matrix_sum}
use Rattle.weights.specs.Weights.{Weight, better, language}
use Rattle.weights.specs.Laws.{test_d, test_u}
use Rattle.weights.specs.Languages.{count_case, limit_case}
use Rattle.weights.proofs.Checking.{few, limits_exact}
use Rattle.matrices.specs.Buffers.{matrix_words, Formed}
use Rattle.matrices.specs.Steps.{Matrix}
use Rattle.matrices.proofs.Entries.{matrix_cong, length_matrix}
use Rattle.matrices.proofs.Malformed.{check_formed, formed_check}
use Rattle.guards.specs.Checks.{first_settle, most_steps, nodes_case, length_case, law_d_case, law_u_case, many_case, list_case}
use Rattle.routes.specs.Calls.{fresh_left, step_of, run_of, done_of, steps_check, StepsRow, steps_row, steps_left, equation_cases}
use Rattle.routes.specs.Ready.{AllSteps}
use Rattle.histories.specs.History.{added_by, after_calls, so_far, HistoryBegun, held, ran, HistoryDemand3}
use Rattle.routes.proofs.Order.{rest_goes_on}
use Rattle.guards.proofs.Singles.{nodes_passed, length_same, length_passed}
use Rattle.routes.proofs.Lists.{all_in, list_passed, passed_list, all_front, all_back}
use Rattle.histories.proofs.Reached.{length_steps, network, reached_formed, reached_reads, runs_on}
use Rattle.refusals.specs.declared.Refusal.TheVariants.{Law}
use Rattle.refusals.specs.Cases.{checks_of, check_of}
use Rattle.routes.proofs.Answers.{row_by_lem, row_by}
use Rattle.guards.specs.OnNetwork.{OnNetwork, components, matrix_on, arcs_on}
use Rattle.std.specs.Prelude.{Ok, Err}

-- ---- lists

pub map_append : (xs ys : List ℕ) → map step_of (xs ++ ys) ≡ map step_of xs ++ map step_of ys
map_append [] ys = refl
map_append (x ∷ xs) ys = ap (step_of x ∷◌) (map_append xs ys)

pub settle_number : (j : ℕ) → step_of (first_settle + j) ≡ settle j
settle_number j = let e : first_settle + j - first_settle ≡ j = omega arith in rw (le-ltb (first_settle + j) first_settle (omega arith)) (ap settle e)

pub mem_steps : (x : ℕ) (xs : List ℕ) → Mem x xs → Mem (step_of x) (map step_of xs)
mem_steps x [] m = m
mem_steps x (y ∷ xs) (inl e) = inl (ap step_of e)
mem_steps x (y ∷ xs) (inr m) = inr (mem_steps x xs m)

module _ (N : OnNetwork) (r : List ℕ) (b : HistoryBegun N r) where
  open N use {n, arcs}

  abbrev cs : List Component
  cs = components N

  abbrev A : Matrix
  A = arcs_on N

  -- what the fresh call's checks and the checks of A give
  abbrev passes : ((nodes_case n).check ≡ Ok tt) × (((count_case N.language).check ≡ Ok tt) × (((limit_case N.language).check ≡ Ok tt) × (((length_case 2 n r).check ≡ Ok tt) × (((law_d_case cs).check ≡ Ok tt) × (((law_u_case cs).check ≡ Ok tt) × Unit {0})))))
  passes = first_passes ((nodes_case n).check ∷ (count_case N.language).check ∷ (limit_case N.language).check ∷ (length_case 2 n r).check ∷ (law_d_case cs).check ∷ (law_u_case cs).check ∷ []) b.fresh_done

  D : test_d cs ≡ true
  D = unless_passes (test_d cs) (Law 1 0) passes.1.1.1.1.0

  U : test_u cs ≡ true
  U = unless_passes (test_u cs) (Law 2 0) passes.1.1.1.1.1.0

  well : Formed arc_sum cs n arcs
  well = check_formed 1 arc_sum cs n arcs (length_passed 1 n arcs (nodes_passed n passes.0).1 b.arcs_long) b.arcs_formed

  𝓝 : Network
  𝓝 = network cs (few N.language) b.limits ((limits_exact cs).0 passes.1.1.0) D U n arcs well

  -- the matrix that numbers reach from fresh, and its words
  abbrev at : List ℕ → Matrix
  at xs = reached (language cs) n A (map step_of xs)

  abbrev mw : List ℕ → List ℕ
  mw xs = matrix_words n (at xs)

  -- its entries are read back from its words
  reads : (xs : List ℕ) (i j : ℕ) → i < n → j < n → matrix_on N (mw xs) i j ≡ at xs i j
  reads xs = reached_reads cs (few N.language) b.limits ((limits_exact cs).0 passes.1.1.0) D U n arcs well (map step_of xs)

  -- ---- one step call

  call_check : (xs list : List ℕ) → steps_check N (mw xs) list ≡ check_of (many_case list ∷ list_case n list ∷ [])
  call_check xs list =
      rest_goes_on N (mw xs) (many_case list ∷ list_case n list ∷ []) (pass_first (checks_of (equation_cases N (mw xs)))
      (passes.0, (passes.1.0, (passes.1.1.0, (b.arcs_long, (sym (length_same 2 n (mw xs) (length_matrix n (at xs))), (passes.1.1.1.1.0, (passes.1.1.1.1.1.0, (b.arcs_formed, (formed_check 2 matrix_sum cs n (mw xs) formed.square formed, tt)))))))))) refl
    where
      formed : Formed matrix_sum cs n (mw xs)
      formed = reached_formed cs (few N.language) b.limits ((limits_exact cs).0 passes.1.1.0) D U n arcs well (map step_of xs)

  module _ (xs list : List ℕ) where
    module _ (e : steps_check N (mw xs) list ≡ Ok tt) where
      runs : (done_of cs n A (matrix_on N (mw xs)) (map step_of list) ≡ length (map step_of list)) × ((i j : ℕ) → i < n → j < n → run_of cs n A (matrix_on N (mw xs)) (map step_of list) i j ≡ reached (language cs) n A (map step_of xs ++ map step_of list) i j)
      runs = runs_on cs (few N.language) b.limits ((limits_exact cs).0 passes.1.1.0) D U n arcs well (map step_of xs) (map step_of list) (matrix_on N (mw xs)) (reads xs)
          (all_in n list (nodes_passed n passes.0).1 (list_passed n list (sym (call_check xs list) ∙ e)).1)

      done_left : steps_left N (mw xs) list ≡ mw (xs ++ list)
      done_left =
          ap (λ (c : Check). if_passed c (matrix_words n (run_of cs n A (matrix_on N (mw xs)) (map step_of list))) (mw xs)) e
          ∙ matrix_cong n (run_of cs n A (matrix_on N (mw xs)) (map step_of list)) (at (xs ++ list)) (λ i j hi hj. runs.1 i j hi hj ∙ ap (λ (s : List Step). reached (language cs) n A s i j) (sym (map_append xs list)))

      done_row : steps_row N (mw xs) list ≡ record { told = done; done = length list }
      done_row =
          row_by_lem N (mw xs) list e
          ∙ ap (λ (k : ℕ). row_by (Ok tt) k (length list)) (runs.0 ∙ length_steps list)
          ∙ rw (le-ltb (length list) (length list) (omega arith))

      done_added : added_by N (mw xs) list ≡ list
      done_added = ap (λ (w : StepsRow). cond (eqb w.told.number 0) list []) done_row

    module _ (x : Refusal) (e : steps_check N (mw xs) list ≡ Err x) where
      refused_left : steps_left N (mw xs) list ≡ mw xs
      refused_left = ap (λ (c : Check). if_passed c (matrix_words n (run_of cs n A (matrix_on N (mw xs)) (map step_of list))) (mw xs)) e

      refused_added : added_by N (mw xs) list ≡ []
      refused_added = ap (λ (w : StepsRow). cond (eqb w.told.number 0) list []) (row_by_lem N (mw xs) list e) ∙ rw (number_some x)

    -- either way
    call : steps_left N (mw xs) list ≡ mw (xs ++ added_by N (mw xs) list)
    call = go (steps_check N (mw xs) list) refl
      where
        go : (c : Check) → steps_check N (mw xs) list ≡ c → steps_left N (mw xs) list ≡ mw (xs ++ added_by N (mw xs) list)
        go (Ok _) e = done_left e ∙ ap (λ (ys : List ℕ). mw (xs ++ ys)) (sym (done_added e))
        go (Err x) e = refused_left x e ∙ ap mw (sym (append-nil xs) ∙ ap (xs ++◌) (sym (refused_added x e)))

  -- ---- many

  calls : (lists : List (List ℕ)) (xs : List ℕ) → after_calls N (mw xs) lists ≡ mw (xs ++ so_far N (mw xs) lists)
  unfolding after_calls so_far
  calls [] xs = ap mw (sym (append-nil xs))
  calls (list ∷ lists) xs =
      ap (λ (s : List ℕ). after_calls N s lists) (call xs list)
      ∙ calls lists (xs ++ added_by N (mw xs) list)
      ∙ ap mw (append_assoc xs (added_by N (mw xs) list) (so_far N (mw (xs ++ added_by N (mw xs) list)) lists)
      ∙ ap (λ (s : List ℕ). xs ++ (added_by N (mw xs) list ++ so_far N s lists)) (sym (call xs list)))

  after_append : (s : List ℕ) (lists more : List (List ℕ)) → after_calls N s (lists ++ more) ≡ after_calls N (after_calls N s lists) more
  unfolding after_calls
  after_append s [] more = refl
  after_append s (list ∷ lists) more = after_append (steps_left N s list) lists more

  fresh_is : fresh_left N.language n r ≡ mw []
  fresh_is = if_passed_lem (matrix_words n (fresh (language (components N)))) r b.fresh_done

  held_is : (lists : List (List ℕ)) → held N r lists ≡ mw (ran N r lists)
  held_is lists =
      ap (λ (s : List ℕ). after_calls N s lists) fresh_is ∙ calls lists []
      ∙ ap (λ (s : List ℕ). mw (so_far N s lists)) (sym fresh_is)

  later_is : (lists more : List (List ℕ)) → held N r (lists ++ more) ≡ mw (ran N r lists ++ so_far N (mw (ran N r lists)) more)
  later_is lists more = after_append (fresh_left N.language n r) lists more ∙ ap (λ (s : List ℕ). after_calls N s more) (held_is lists) ∙ calls more (ran N r lists)

  entry : (lists : List (List ℕ)) (i j : ℕ) → i < n → j < n → matrix_on N (held N r lists) i j ≡ at (ran N r lists) i j
  entry lists i j hi hj = ap (λ (s : List ℕ). matrix_on N s i j) (held_is lists) ∙ reads (ran N r lists) i j hi hj

  three : (lists : List (List ℕ)) → Demand3 (language cs) n A (map step_of (ran N r lists))
  unfolding 𝓝 network
  three lists = demand_3 𝓝 (map step_of (ran N r lists))

  no_worse : (lists more : List (List ℕ)) (i j : ℕ) → i < n → j < n → better cs (matrix_on N (held N r lists) i j) (matrix_on N (held N r (lists ++ more)) i j) ≡ false
  unfolding 𝓝 network
  no_worse lists more i j hi hj =
      let xs = ran N r lists in
      let ys = so_far N (mw xs) more in
      ap₂ (better cs) (entry lists i j hi hj) (ap (λ (s : List ℕ). matrix_on N s i j) (later_is lists more) ∙ reads (xs ++ ys) i j hi hj ∙ ap (λ (s : List Step). reached (language cs) n A s i j) (map_append xs ys))
      ∙ never_worse 𝓝 (map step_of xs) (map step_of ys) i j hi

  -- ---- one call for two

  module _ (lists : List (List ℕ)) (xs ys : List ℕ) (e : steps_check N (held N r lists) (xs ++ ys) ≡ Ok tt) where
    abbrev zs : List ℕ
    zs = ran N r lists

    whole : steps_check N (mw zs) (xs ++ ys) ≡ Ok tt
    whole = ap (λ (s : List ℕ). steps_check N s (xs ++ ys)) (sym (held_is lists)) ∙ e

    listed : (length (xs ++ ys) ≤ most_steps) × AllSteps n (xs ++ ys)
    listed = list_passed n (xs ++ ys) (sym (call_check zs (xs ++ ys)) ∙ whole)

    first : steps_check N (mw zs) xs ≡ Ok tt
    first = call_check zs xs ∙ passed_list n xs (let h = listed.0 in omega (arith, length-append xs ys)) (all_front n xs ys listed.1)

    second : steps_check N (mw (zs ++ xs)) ys ≡ Ok tt
    second = call_check (zs ++ xs) ys ∙ passed_list n ys (let h = listed.0 in omega (arith, length-append xs ys)) (all_back n xs ys listed.1)

    two_calls : held N r (lists ++ (xs ++ ys) ∷ []) ≡ held N r (lists ++ xs ∷ ys ∷ [])
    unfolding after_calls
    two_calls =
        after_append (fresh_left N.language n r) lists ((xs ++ ys) ∷ []) ∙ ap (λ (s : List ℕ). steps_left N s (xs ++ ys)) (held_is lists) ∙ done_left zs (xs ++ ys) whole
        ∙ sym (after_append (fresh_left N.language n r) lists (xs ∷ ys ∷ []) ∙ ap (λ (s : List ℕ). steps_left N (steps_left N s xs) ys) (held_is lists)
        ∙ ap (λ (s : List ℕ). steps_left N s ys) (done_left zs xs first) ∙ done_left (zs ++ xs) ys second ∙ ap mw (append_assoc zs xs ys))

  -- Every history meets demand 3.
  pub history_demand_3 : (lists : List (List ℕ)) → HistoryDemand3 N r lists
  history_demand_3 lists =
      let xs = ran N r lists in
      record {
        reaches = held_is lists;
        never_better = λ i j hi hj. ap (λ (w : Weight). better cs w (best (language cs) n A i j)) (entry lists i j hi hj) ∙ (three lists).never_better i j hi;
        never_worse = no_worse lists;
        settled = λ j hj m i hi. subst (Best (language cs) n A i j) (sym (entry lists i j hi hj)) ((three lists).settled j (subst (λ (s : Step). Mem s (map step_of xs)) (settle_number j) (mem_steps (first_settle + j) xs m)) i hi);
        swept = λ m h t j hj i hi. subst (Best (language cs) n A i j) (sym (entry lists i j hi hj)) ((three lists).swept m h t j i hi);
        refuses = λ list. ap (λ (s : List ℕ). steps_check N s list) (held_is lists) ∙ call_check xs list;
        whole = λ list e. ap (λ (s : List ℕ). steps_row N s list) (held_is lists) ∙ done_row xs list (ap (λ (s : List ℕ). steps_check N s list) (sym (held_is lists)) ∙ e);
        joined = two_calls lists;
      }
