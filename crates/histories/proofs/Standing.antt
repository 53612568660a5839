-- What a step call leaves standing: an empty list changes nothing, and 11 at step k leaves what the done call with the first k steps
-- leaves.
use Prim.Native.Nat.{ℕ, zero, suc, ◌≤◌, ◌<◌}
use mathlib.Core.Path.{◌≡◌, refl, sym, ap, subst, ◌∙◌}
use mathlib.Core.List.{List, [], ◌∷◌, map}
use native.Mathlib.Omega.{arith}
use lib.ListN.{length, take, drop, take-append-drop}
use lib.Seq.{length-take-le}
use borrow.Author.Tests.{le-ltb}
use Rattle.refusals.specs.declared.Refusal.TheVariants.{Sum}
use Rattle.refusals.specs.Told.{told, done}
use Rattle.refusals.specs.Checks.{Pass, if_passed, Check}
use Rattle.refusals.proofs.First.{first_passes, pass_first}
use Rattle.algebra.specs.Step.{Step, step}
use Rattle.weights.specs.declared.Component.{Component}
use Rattle.weights.specs.Sizes.{places, matrix_sum}
use Rattle.weights.specs.Weights.{language}
use Rattle.weights.specs.Words.{words}
use Rattle.weights.proofs.Checking.{few}
use Rattle.weights.proofs.Padding.{words_pad}
use Rattle.matrices.specs.Buffers.{matrix_words, matrix_in, Formed}
use Rattle.matrices.specs.Steps.{Matrix}
use Rattle.matrices.proofs.Blocks.{blocks_cong}
use Rattle.matrices.proofs.Entries.{matrix_self}
use Rattle.matrices.proofs.Malformed.{check_formed}
use Rattle.guards.specs.Checks.{most_steps, many_case, list_case}
use Rattle.routes.specs.Calls.{step_of, run_of, done_of, steps_check, steps_row, steps_left, matrices_cases, steps_cases}
use Rattle.routes.specs.Ready.{AllSteps}
use Rattle.guards.proofs.Singles.{nodes_passed, length_passed}
use Rattle.routes.proofs.Lists.{list_passed, passed_list, all_front}
use Rattle.routes.proofs.Bridge.{entry_padded}
use Rattle.histories.proofs.Reached.{length_steps}
use Rattle.histories.proofs.Over.{step_over, step_fits_lem}
use Rattle.histories.proofs.Exact.{stops_exactly, steps_sum}
use Rattle.routes.specs.Stops.{StopsAt}
use Rattle.refusals.specs.Cases.{Case, checks_of}
use Rattle.routes.proofs.Answers.{row_by_lem, row_by}
use Rattle.guards.specs.OnNetwork.{OnNetwork, components, matrix_on, arcs_on}
use Rattle.std.specs.Prelude.{Ok, Err}

-- a well-formed buffer is the words of the matrix that it holds
pub words_self : (cap : ℕ) (cs : List Component) (n : ℕ) (s : List ℕ) → length cs ≤ places → Formed cap cs n s → matrix_words n (matrix_in (length cs) n s) ≡ s
words_self cap cs n s h f =
    blocks_cong _ _ n (λ i hi. blocks_cong _ _ n (λ j hj. sym (words_pad (matrix_in (length cs) n s i j)) ∙ ap words (entry_padded cap cs n s h f i j hi hj)))
    ∙ matrix_self n s f.square

-- where the checks of a call on A and R pass, R is well formed
pub routes_formed : (N : OnNetwork) (r : List ℕ) (rest : List Case) → Pass (checks_of (matrices_cases N r rest)) → Formed matrix_sum (components N) N.n r
routes_formed N r rest p =
    check_formed 2 matrix_sum (components N) N.n r (length_passed 2 N.n r (nodes_passed N.n p.0).1 p.1.1.1.1.0) p.1.1.1.1.1.1.1.1.0

-- ---- an empty list

pub nothing_changes : (N : OnNetwork) (r : List ℕ) → steps_left N r [] ≡ r
unfolding run_of
nothing_changes N r = go (steps_check N r []) refl
  where
    go : (c : Check) → steps_check N r [] ≡ c → if_passed c (matrix_words N.n (matrix_on N r)) r ≡ r
    go (Ok _) e = words_self matrix_sum (components N) N.n r (few N.language) (routes_formed N r (many_case [] ∷ list_case N.n [] ∷ []) (first_passes (checks_of (steps_cases N r [])) e))
    go (Err x) e = refl

-- ---- 11

map_take : (k : ℕ) (xs : List ℕ) → map step_of (take k xs) ≡ take k (map step_of xs)
map_take zero xs = refl
map_take (suc k) [] = refl
map_take (suc k) (x ∷ xs) = ap (step_of x ∷◌) (map_take k xs)

stops_run : (cs : List Component) (n : ℕ) (A R : Matrix) (k : ℕ) (steps : List Step) → StopsAt cs n A R k steps → run_of cs n A R steps ≡ run_of cs n A R (take k steps)
unfolding run_of
stops_run cs n A R k [] s = absurd s
stops_run cs n A R zero (s ∷ steps) h = rw ((step_over cs n A R s).1 h)
stops_run cs n A R (suc k) (s ∷ steps) h = rw ((step_fits_lem cs n A R s).1 h.0) (stops_run cs n A (step (language cs) n A s R) k steps h.1)

stops_done : (cs : List Component) (n : ℕ) (A R : Matrix) (k : ℕ) (steps : List Step) → StopsAt cs n A R k steps → done_of cs n A R (take k steps) ≡ k
unfolding done_of
stops_done cs n A R k [] s = absurd s
stops_done cs n A R zero (s ∷ steps) h = refl
stops_done cs n A R (suc k) (s ∷ steps) h = rw ((step_fits_lem cs n A R s).1 h.0) (ap suc (stops_done cs n A (step (language cs) n A s R) k steps h.1))

module _ (N : OnNetwork) (r list : List ℕ) (k : ℕ) (e : (steps_row N r list).told ≡ told (Sum 0 k)) where
  open N use {n}

  abbrev cs : List Component
  cs = components N

  abbrev A : Matrix
  A = arcs_on N

  abbrev R : Matrix
  R = matrix_on N r

  passes : steps_check N r list ≡ Ok tt
  passes = ((steps_sum N r list k).0 e).0

  stops : StopsAt cs n A R k (map step_of list)
  stops = ((steps_sum N r list k).0 e).1

  below : k < length list
  below = rw (length_steps list) at ((stops_exactly cs n A R k (map step_of list)).1 stops).1

  front : steps_check N r (take k list) ≡ Ok tt
  front =
      let p = first_passes (checks_of (steps_cases N r list)) passes in
      let q = list_passed n list (pass_first ((many_case list).check ∷ (list_case n list).check ∷ []) p.1.1.1.1.1.1.1.1.1) in
      let len : length (take k list) ≡ k = length-take-le k list (omega (arith, below)) in
      let all : AllSteps n (take k list) = all_front n (take k list) (drop k list) (subst (AllSteps n) (sym (take-append-drop k list)) q.1) in
      let few : length (take k list) ≤ most_steps = omega (arith, below, q.0) in
      let m = first_passes ((many_case (take k list)).check ∷ (list_case n (take k list)).check ∷ []) (passed_list n (take k list) few all) in
      pass_first (checks_of (steps_cases N r (take k list)))
      (p.0, (p.1.0, (p.1.1.0, (p.1.1.1.0, (p.1.1.1.1.0, (p.1.1.1.1.1.0, (p.1.1.1.1.1.1.0, (p.1.1.1.1.1.1.1.0, (p.1.1.1.1.1.1.1.1.0, m)))))))))

  -- the call with the first k steps is done ..
  pub first_done : steps_row N r (take k list) ≡ record { told = done; done = k }
  first_done =
      let len : length (take k list) ≡ k = length-take-le k list (omega (arith, below)) in
      row_by_lem N r (take k list) front
      ∙ ap (λ (m : ℕ). row_by (Ok tt) (done_of cs n A R (map step_of (take k list))) m) len
      ∙ ap (λ (m : ℕ). row_by (Ok tt) m k) (ap (done_of cs n A R) (map_take k list) ∙ stops_done cs n A R k (map step_of list) stops)
      ∙ rw (le-ltb k k (omega arith))

  -- .. and leaves what the call that is refused 11 at step k leaves
  pub stopped_leaves : steps_left N r list ≡ steps_left N r (take k list)
  stopped_leaves =
      ap (λ (c : Check). if_passed c (matrix_words n (run_of cs n A R (map step_of list))) r) passes
      ∙ ap (matrix_words n) (stops_run cs n A R k (map step_of list) stops ∙ ap (run_of cs n A R) (sym (map_take k list)))
      ∙ sym (ap (λ (c : Check). if_passed c (matrix_words n (run_of cs n A R (map step_of (take k list)))) r) front)
