-- Which row is lent, exactly: the new one where every entry of the new matrix is the best, the standing one where not, an empty
-- part where the call refuses; and what makes the new matrix one that lends.
use Prim.Native.Nat.{ℕ, suc, ◌*◌, ◌≤◌, ◌<◌}
use mathlib.Core.Path.{◌≡◌, refl, sym, ap, ap₂, subst, ◌∙◌}
use mathlib.Core.Bool.{Bool, true, false, cond}
use mathlib.Core.List.{List, [], ◌∷◌, map}
use mathlib.Core.Logic.{◌⊎◌, inl, inr, ◌↔◌}
use native.Mathlib.Omega.{arith}
use lib.ListN.{length, length-take, length-drop}
use Rattle.refusals.specs.declared.Refusal.{Refusal}
use Rattle.refusals.specs.Told.{told, done}
use Rattle.refusals.specs.Checks.{answer_told, if_passed, Check}
use Rattle.refusals.proofs.First.{first_passes, pass_first}
use Rattle.algebra.specs.Step.{Stretches}
use Rattle.weights.specs.Sizes.{weight_words, matrix_sum}
use Rattle.weights.specs.Languages.{SmallLimits}
use Rattle.weights.proofs.Checking.{few}
use Rattle.matrices.specs.Buffers.{Square, Formed}
use Rattle.matrices.proofs.Blocks.{block_room}
use Rattle.routes.specs.Calls.{fresh_cases, step_of, steps_row, steps_left}
use Rattle.guards.proofs.Singles.{length_same, node_in}
use Rattle.refusals.proofs.Exactly.{told_check}
use Rattle.histories.specs.History.{HistoryBegun, held, ran, BestColumn}
use Rattle.histories.proofs.Reached.{reached_formed}
use Rattle.histories.proofs.Histories.{history_demand_3}
use Rattle.handover.specs.Calls.{handover_check, is_best, lender_row, row_part, lent_row, handover_cases}
use Rattle.handover.proofs.Answers.{sized}
use Rattle.handovers.specs.Handovers.{LawfulNetwork, EveryEntryBest, SettlesAll}
use Rattle.handovers.proofs.Tested.{S, D, U, well, test_exactly}
use Rattle.handovers.proofs.Recipe.{steps_lawful, left_long, settled_is_best}
use Rattle.refusals.proofs.Cases.{AllExact, told_exactly, no_more, ◌and◌}
use Rattle.refusals.specs.Cases.{ToldExactly, checks_of, refusal_numbers}
use Rattle.guards.proofs.Cases.{arcs_exact, length_exact, node_exact, nodes_exact}
use Rattle.guards.specs.OnNetwork.{OnNetwork, components}
use Rattle.guards.proofs.Entering.{call_exact}
use Rattle.std.specs.Prelude.{Ok, Err}

-- the checks of a handover: what every call on A gives, two matrices of the right length, and a node
pub handover_passes : (N : OnNetwork) (standing newer : List ℕ) (i : ℕ) → LawfulNetwork N → length newer ≡ N.n * (N.n * weight_words) → length standing ≡ N.n * (N.n * weight_words) → i < N.n → handover_check N standing newer i ≡ Ok tt
handover_passes N standing newer i g e f h =
    pass_first (checks_of (handover_cases N standing newer i))
    (g.nodes, (g.count, (g.sound, (g.long, (sym (length_same 2 N.n newer e), (sym (length_same 5 N.n standing f), (g.law_d_holds, (g.law_u_holds, (g.arcs, (sym (node_in 0 N.n i h), tt))))))))))

module _ (N : OnNetwork) (standing newer : List ℕ) (i : ℕ) where
  open N use {n, arcs}

  abbrev check : Check
  check = handover_check N standing newer i

  -- ---- refusals

  handover_exact : AllExact (handover_cases N standing newer i)
  handover_exact =
      call_exact N.language (nodes_exact n and no_more) (length_exact 1 n arcs and length_exact 2 n newer and length_exact 5 n standing and no_more)
      (λ none s. arcs_exact (components N) n arcs and node_exact 0 n i and no_more)

  -- 01's order
  pub handover_numbers : refusal_numbers (handover_cases N standing newer i) ≡ 3 ∷ 5 ∷ 4 ∷ 9 ∷ 9 ∷ 9 ∷ 10 ∷ 10 ∷ 6 ∷ 7 ∷ []
  handover_numbers = refl

  -- each refusal exactly where it is due, and done exactly where none is: of the call that tells which refusal ..
  pub handover_told : ToldExactly (handover_cases N standing newer i) (answer_told check)
  handover_told = told_exactly (handover_cases N standing newer i) handover_exact (answer_told check) refl

  -- .. and of the one that tells which matrix lends
  pub lender_told : ToldExactly (handover_cases N standing newer i) (lender_row N standing newer i).told
  lender_told = told_exactly (handover_cases N standing newer i) handover_exact (lender_row N standing newer i).told refl

  -- ---- the part

  row_long : (s : List ℕ) → Square n s → i < n → length (row_part n i s) ≡ n * weight_words
  row_long s q h = simp (length-take, length-drop) (omega (arith, block_room (n * weight_words) i n h, q.long))

  long : check ≡ Ok tt → length (lent_row N standing newer i) ≡ n * weight_words
  long e = ap (λ (c : Check). length (if_passed c (cond (is_best N newer) (row_part n i newer) (row_part n i standing)) [])) e ∙ go (is_best N newer)
    where
      go : (b : Bool) → length (if_passed (Ok tt) (cond b (row_part n i newer) (row_part n i standing)) []) ≡ n * weight_words
      go true = row_long newer (sized N standing newer i e).new_square (sized N standing newer i e).node
      go false = row_long standing (sized N standing newer i e).standing_square (sized N standing newer i e).node

  -- The part is empty exactly when the second call tells a refusal.
  pub empty_exactly : (lent_row N standing newer i ≡ []) ↔ ((x : Refusal) × (answer_told check ≡ told x))
  empty_exactly = (λ e. there check refl e, λ h. ap (λ (c : Check). if_passed c (cond (is_best N newer) (row_part n i newer) (row_part n i standing)) []) ((told_check check h.0).0 h.1))
    where
      there : (c : Check) → check ≡ c → lent_row N standing newer i ≡ [] → (x : Refusal) × (answer_told check ≡ told x)
      there (Ok _) p e = absurd (let z : length (lent_row N standing newer i) ≡ 0 = ap length e in omega (arith, long p, (sized N standing newer i p).some))
      there (Err x) p e = (x, ap answer_told p)

  by_test : (b : Bool) → check ≡ Ok tt → is_best N newer ≡ b → lent_row N standing newer i ≡ if_passed (Ok tt) (cond b (row_part n i newer) (row_part n i standing)) []
  by_test b p q = ap₂ (λ (c : Check) (b : Bool). if_passed c (cond b (row_part n i newer) (row_part n i standing)) []) p q

  -- the new matrix passes the test: its row is lent
  pub new_row_lent : check ≡ Ok tt → is_best N newer ≡ true → lent_row N standing newer i ≡ row_part n i newer
  new_row_lent p q = by_test true p q

  -- it does not: the standing one's is
  pub standing_row_lent : check ≡ Ok tt → is_best N newer ≡ false → lent_row N standing newer i ≡ row_part n i standing
  standing_row_lent p q = by_test false p q

  module _ (limits : SmallLimits 65535 (components N)) (p : check ≡ Ok tt) where
    pub handover_lawful : LawfulNetwork N
    handover_lawful =
        let h = first_passes (checks_of (handover_cases N standing newer i)) p in
        record { nodes = h.0; count = h.1.0; sound = h.1.1.0; long = h.1.1.1.0; law_d_holds = h.1.1.1.1.1.1.0; law_u_holds = h.1.1.1.1.1.1.1.0; arcs = h.1.1.1.1.1.1.1.1.0; limits = limits }

    -- The new matrix's row is lent where every entry of it is the best ..
    pub best_lends_new : EveryEntryBest N newer → lent_row N standing newer i ≡ row_part n i newer
    best_lends_new b = by_test true p ((test_exactly N handover_lawful newer).1 b)

    -- .. and else the standing one's.
    pub else_lends_standing : (EveryEntryBest N newer → ⊥) → lent_row N standing newer i ≡ row_part n i standing
    else_lends_standing f = go (is_best N newer) refl
      where
        go : (b : Bool) → is_best N newer ≡ b → lent_row N standing newer i ≡ row_part n i standing
        go true q = absurd (f ((test_exactly N handover_lawful newer).0 q))
        go false q = by_test false p q

-- ---- a history of calls

module _ (N : OnNetwork) (r : List ℕ) (b : HistoryBegun N r) (lists : List (List ℕ)) where
  open N use {n, arcs}

  abbrev newer : List ℕ
  newer = held N r lists

  known : LawfulNetwork N
  known =
      let h = first_passes (checks_of (fresh_cases N.language n r)) b.fresh_done in
      record { nodes = h.0; count = h.1.0; sound = h.1.1.0; long = b.arcs_long; law_d_holds = h.1.1.1.1.0; law_u_holds = h.1.1.1.1.1.0; arcs = b.arcs_formed; limits = b.limits }

  history_formed : Formed matrix_sum (components N) n newer
  history_formed =
      subst (Formed matrix_sum (components N) n) (sym (history_demand_3 N r b lists).reaches)
      (reached_formed (components N) (few N.language) b.limits (S N known) (D N known) (U N known) n arcs (well N known) (map step_of (ran N r lists)))

  history_best : SettlesAll n (ran N r lists) ⊎ ((m : ℕ) × (n ≤ suc m) × Stretches n m (map step_of (ran N r lists))) → EveryEntryBest N newer
  history_best h = record { formed = history_formed; best = λ u j hu hj. columns h j hj u hu }
    where
      columns : SettlesAll n (ran N r lists) ⊎ ((m : ℕ) × (n ≤ suc m) × Stretches n m (map step_of (ran N r lists))) → (j : ℕ) → j < n → BestColumn N newer j
      columns (inl s) j hj = (history_demand_3 N r b lists).settled j hj (s j hj)
      columns (inr (m, k, t)) j hj = (history_demand_3 N r b lists).swept m k t j hj

  -- Where the steps of the history settle every column, or contain n - 1 stretches, the new row is the one lent, for every node.
  pub history_lends_new : SettlesAll n (ran N r lists) ⊎ ((m : ℕ) × (n ≤ suc m) × Stretches n m (map step_of (ran N r lists)))
      → (standing : List ℕ) (i : ℕ) → length standing ≡ n * (n * weight_words) → i < n → lent_row N standing newer i ≡ row_part n i newer
  history_lends_new h standing i e hi = best_lends_new N standing newer i b.limits (handover_passes N standing newer i known history_formed.square.long e hi) (history_best h)

-- ---- the recipe

-- After a done call that settles every column the new row is the one lent, for every node, whatever the buffer held before.
pub settling_lends_new : (N : OnNetwork) (r list standing : List ℕ) (i : ℕ) → SmallLimits 65535 (components N) → (steps_row N r list).told ≡ done → SettlesAll N.n list
    → length standing ≡ N.n * (N.n * weight_words) → i < N.n → lent_row N standing (steps_left N r list) i ≡ row_part N.n i (steps_left N r list)
settling_lends_new N r list standing i limits d all e hi =
    new_row_lent N standing (steps_left N r list) i
    (handover_passes N standing (steps_left N r list) i (steps_lawful N r list limits d) (left_long N r list limits d) e hi)
    (settled_is_best N r list limits d all)
