-- The step call tells each refusal exactly where it is due, 11 last: at the first row step that would store a sum above 983,025; it is
-- done exactly where none is; and it counts the steps done.
use Prim.Native.Nat.{ℕ, zero, suc, ◌≤◌, ◌<◌}
use mathlib.Core.Path.{◌≡◌, refl, sym, ap, subst, ◌∙◌}
use mathlib.Core.Bool.{Bool, true, false, cond}
use mathlib.Core.List.{List, [], ◌∷◌, map}
use mathlib.Core.Logic.{◌↔◌}
use native.Mathlib.Omega.{arith}
use lib.Dec.{ltb}
use lib.ListN.{length}
use borrow.Author.Tests.{ltb-true, ltb-false, lt-ltb}
use Rattle.refusals.specs.declared.Refusal.{Refusal}
use Rattle.refusals.specs.declared.Refusal.TheVariants.{Sum}
use Rattle.refusals.specs.Told.{told, done}
use Rattle.refusals.specs.declared.Told.{Told}
use Rattle.refusals.specs.Checks.{answer_told, Check}
use Rattle.refusals.specs.Cases.{DueIn, ToldExactly, refusal_numbers}
use Rattle.refusals.proofs.OneToOne.{told_one, told_not_done}
use Rattle.refusals.proofs.First.{passed_not, refused_one}
use Rattle.refusals.proofs.Cases.{Exact, AllExact, refuses_exactly, passes_exactly, told_exactly, never_due, only_at, no_more, ◌and◌}
use Rattle.algebra.specs.Step.{Step, step}
use Rattle.weights.specs.declared.Component.{Component}
use Rattle.weights.specs.Weights.{language}
use Rattle.matrices.specs.Steps.{Matrix}
use Rattle.guards.proofs.Cases.{many_exact, list_exact}
use Rattle.routes.specs.Stops.{StepOver, StopsAt}
use Rattle.routes.specs.Calls.{step_of, step_fits, done_of, steps_cases, steps_check, count_of, sum_check, sum_case, running_cases, steps_row, StepsCounted}
use Rattle.routes.proofs.Cases.{matrices_exact}
use Rattle.routes.proofs.Answers.{row_by, row_by_lem}
use Rattle.histories.proofs.Reached.{length_steps}
use Rattle.histories.proofs.Over.{step_over, step_fits_lem}
use Rattle.guards.specs.OnNetwork.{OnNetwork, components, matrix_on, arcs_on}
use Rattle.std.specs.Prelude.{Ok, Err}

-- ---- 11: at the first step that does not fit

pub stops_exactly : (cs : List Component) (n : ℕ) (A R : Matrix) (k : ℕ) (steps : List Step) → ((done_of cs n A R steps ≡ k) × (k < length steps)) ↔ StopsAt cs n A R k steps
unfolding done_of
stops_exactly cs n A R k [] = (λ e. absurd (let h : k < 0 = e.1 in omega arith), λ s. absurd s)
stops_exactly cs n A R zero (s ∷ steps) = (λ e. (step_over cs n A R s).0 (go (step_fits cs n A R s) refl e.0), λ f. (rw ((step_over cs n A R s).1 f), omega arith))
  where
    go : (b : Bool) → step_fits cs n A R s ≡ b → cond b (suc (done_of cs n A (step (language cs) n A s R) steps)) 0 ≡ 0 → step_fits cs n A R s ≡ false
    go true p q = absurd (let z : suc (done_of cs n A (step (language cs) n A s R) steps) ≡ 0 = q in omega arith)
    go false p q = p
stops_exactly cs n A R (suc k) (s ∷ steps) = (
  λ e. go (step_fits cs n A R s) refl e.0 (stops_exactly cs n A (step (language cs) n A s R) k steps).0 e.1,
  λ f. let ih = (stops_exactly cs n A (step (language cs) n A s R) k steps).1 f.1 in let h : k < length steps = ih.1 in (rw ((step_fits_lem cs n A R s).1 f.0) (ap suc ih.0), omega arith),
)
  where
    go : (b : Bool) → step_fits cs n A R s ≡ b → cond b (suc (done_of cs n A (step (language cs) n A s R) steps)) 0 ≡ suc k
        → ((done_of cs n A (step (language cs) n A s R) steps ≡ k) × (k < length steps) → StopsAt cs n A (step (language cs) n A s R) k steps) → suc k < length (s ∷ steps)
        → (StepOver cs n A R s → ⊥) × StopsAt cs n A (step (language cs) n A s R) k steps
    go true p q ih h = ((step_fits_lem cs n A R s).0 p, ih (omega arith, omega arith))
    go false p q ih h = absurd (omega arith)

-- no more than all are done
pub done_most : (cs : List Component) (n : ℕ) (A R : Matrix) (steps : List Step) → done_of cs n A R steps ≤ length steps
unfolding done_of
done_most cs n A R [] = omega arith
done_most cs n A R (s ∷ steps) = go (step_fits cs n A R s) (done_most cs n A (step (language cs) n A s R) steps)
  where
    go : (b : Bool) → done_of cs n A (step (language cs) n A s R) steps ≤ length steps → cond b (suc (done_of cs n A (step (language cs) n A s R) steps)) 0 ≤ suc (length steps)
    go true h = omega arith
    go false h = omega arith

-- ---- the row, by what the checks give and the steps that are done

row_whole : (c : Check) (k m : ℕ) → k ≤ m → (row_by c k m).told ≡ done → (row_by c k m).done ≡ m
row_whole (Err x) k m h e = absurd (told_not_done x e)
row_whole (Ok _) k m h e = go (ltb k m) refl e
  where
    go : (b : Bool) → ltb k m ≡ b → answer_told (cond b (Err (Sum 0 k)) (Ok tt)) ≡ done → k ≡ m
    go true p q = absurd (told_not_done (Sum 0 k) q)
    go false p q = omega (arith, ltb-false k m p)

row_stopped : (c : Check) (k m j : ℕ) → (c ≡ Err (Sum 0 j) → ⊥) → (row_by c k m).told ≡ told (Sum 0 j) → (row_by c k m).done ≡ j
row_stopped (Err x) k m j n e = absurd (n (ap Err (told_one x (Sum 0 j) e)))
row_stopped (Ok _) k m j n e = go (ltb k m) e
  where
    go : (b : Bool) → answer_told (cond b (Err (Sum 0 k)) (Ok tt)) ≡ told (Sum 0 j) → k ≡ j
    go true q = ap (λ (t : Told). t.place) q
    go false q = absurd (told_not_done (Sum 0 j) (sym q))

row_refused : (c : Check) (k m : ℕ) (x : Refusal) → ((j : ℕ) → x ≡ Sum 0 j → ⊥) → (row_by c k m).told ≡ told x → (row_by c k m).done ≡ 0
row_refused (Err y) k m x n e = refl
row_refused (Ok _) k m x n e = go (ltb k m) e
  where
    go : (b : Bool) → answer_told (cond b (Err (Sum 0 k)) (Ok tt)) ≡ told x → k ≡ 0
    go true q = absurd (n k (sym (told_one (Sum 0 k) x q)))
    go false q = absurd (told_not_done x (sym q))

-- ---- the step call

module _ (N : OnNetwork) (r list : List ℕ) where
  open N use {n}

  abbrev Stops : ℕ → Type 0
  Stops k = StopsAt (components N) n (arcs_on N) (matrix_on N r) k (map step_of list)

  abbrev count : ℕ
  count = count_of N r list

  stops : (k : ℕ) → ((count ≡ k) × (k < length (map step_of list))) ↔ Stops k
  stops k = stops_exactly (components N) n (arcs_on N) (matrix_on N r) k (map step_of list)

  sum_refuses : (x : Refusal) → ((sum_case N r list).check ≡ Err x) ↔ DueIn (sum_case N r list) x
  sum_refuses x = (λ e. there (ltb count (length list)) refl e, back)
    where
      there : (b : Bool) → ltb count (length list) ≡ b → ◌≡◌ {A = Check} (cond b (Err (Sum 0 count)) (Ok tt)) (Err x) → DueIn (sum_case N r list) x
      there true p e = (count, sym (refused_one e), (stops count).0 (refl, rw (length_steps list) (ltb-true count (length list) p)))
      there false p e = absurd (passed_not x e)

      back : DueIn (sum_case N r list) x → sum_check count (length list) ≡ Err x
      back (k, q, s) =
          let h = (stops k).1 s in
          let m : k < length list = rw (length_steps list) at h.1 in
          ap (λ (j : ℕ). sum_check j (length list)) h.0 ∙ rw (lt-ltb k (length list) m) (ap Err (sym q))

  sum_exact : Exact (sum_case N r list)
  sum_exact = record { refuses = sum_refuses }

  steps_exact : AllExact (steps_cases N r list)
  steps_exact = matrices_exact N r (many_exact list and list_exact n list and no_more)

  -- 01's order, 11 last
  pub steps_numbers : refusal_numbers (running_cases N r list) ≡ 3 ∷ 5 ∷ 4 ∷ 9 ∷ 9 ∷ 10 ∷ 10 ∷ 6 ∷ 6 ∷ 13 ∷ 7 ∷ 11 ∷ []
  steps_numbers = refl

  -- Each refusal exactly where it is due, 11 among them, and done exactly where none is.
  pub steps_told : ToldExactly (running_cases N r list) (steps_row N r list).told
  steps_told = told_exactly (running_cases N r list)
      (matrices_exact N r (many_exact list and list_exact n list and sum_exact and no_more))
      (steps_row N r list).told refl

  -- 11 at step k exactly where no check refuses and step k is the first that would store a sum above 983,025
  pub steps_sum : (k : ℕ) → ((steps_row N r list).told ≡ told (Sum 0 k)) ↔ ((steps_check N r list ≡ Ok tt) × Stops k)
  steps_sum k =
      let only = only_at 11 (running_cases N r list) (Sum 0 k) (λ place. refl) in
      let passes = passes_exactly (steps_cases N r list) steps_exact in
      (λ e. let h = only.0 ((steps_told.refused (Sum 0 k)).0 e) in (passes.1 h.0, there h.1), λ (p, s). (steps_told.refused (Sum 0 k)).1 (only.1 (passes.0 p, (k, refl, s))))
    where
      there : DueIn (sum_case N r list) (Sum 0 k) → Stops k
      there (j, q, s) = let e : j ≡ k = sym (ap (λ (z : Refusal). (told z).place) q) in subst Stops e s

  -- The steps done: all, or those before the one that is refused 11, or none.
  pub steps_counted : StepsCounted list (steps_row N r list)
  steps_counted = subst (StepsCounted list) (sym (row_by_lem N r list refl)) (record {
    whole = row_whole (steps_check N r list) count (length list) (subst (λ (m : ℕ). count ≤ m) (length_steps list) (done_most (components N) n (arcs_on N) (matrix_on N r) (map step_of list)));
    stopped = λ k. row_stopped (steps_check N r list) count (length list) k (λ e. never_due (steps_cases N r list) (Sum 0 k) (λ p. refl) ((refuses_exactly (steps_cases N r list) steps_exact (Sum 0 k)).0 e));
    refused = row_refused (steps_check N r list) count (length list);
  })
