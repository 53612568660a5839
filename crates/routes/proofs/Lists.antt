-- Step lists, number by number: what a number means, the first that is no step, and a run one step further.
use Prim.Native.Nat.{ℕ, suc, ◌+◌, ◌-◌, ◌≤◌, ◌<◌}
use mathlib.Core.Path.{◌≡◌, refl, sym, subst, ◌∙◌}
use mathlib.Core.Bool.{Bool, true, false, cond}
use mathlib.Core.List.{List, [], ◌∷◌, ◌++◌, map}
use native.Mathlib.Omega.{arith}
use native.Mathlib.Numerals.{add-one}
use lib.Dec.{leb, ltb}
use lib.ListN.{length, get_or, drop, drop_of_length-le}
use lib.Seq.{drop-cons}
use borrow.Author.Tests.{leb-true, ltb-true, ltb-false, lt-ltb, le-ltb, lt-leb, le-leb}
use Rattle.refusals.specs.declared.Refusal.TheVariants.{NoSuch, TooMany}
use Rattle.refusals.specs.Checks.{unless, first_of}
use Rattle.refusals.proofs.First.{passed_not, or_passed}
use Rattle.algebra.specs.Step.{Step, row, settle, step}
use Rattle.weights.specs.declared.Component.{Component}
use Rattle.weights.specs.Sizes.{places}
use Rattle.weights.proofs.Ordering.{clash}
use Rattle.weights.specs.declared.PerPlace.{PerPlace}
use Rattle.weights.specs.Weights.{language}
use Rattle.weights.specs.Languages.{places_of}
use Rattle.matrices.specs.Buffers.{matrix_words, matrix_in}
use Rattle.matrices.specs.Steps.{row_fits, stepped, Given}
use Rattle.matrices.proofs.Kept.{row_given, settle_given}
use Rattle.guards.specs.Checks.{is_step, steps_from, many_case, list_case, first_settle, most_steps}
use Rattle.routes.specs.Calls.{step_of, step_fits}
use Rattle.routes.specs.Ready.{AllSteps, step_left, run_left, run_done}
use Rattle.routes.proofs.Bridge.{StepIn, StepsIn}
use Rattle.std.specs.Prelude.{Ok, Err}

-- ---- one number

pub means_row : (x : ℕ) → x < first_settle → row x ≡ step_of x
means_row x h = rw (lt-ltb x first_settle h)

pub means_settle : (x : ℕ) → first_settle ≤ x → settle (x - first_settle) ≡ step_of x
means_settle x h = rw (le-ltb x first_settle h)

pub step_row : (n x : ℕ) → x < n → true ≡ is_step n x
step_row n x h = rw (lt-ltb x n h)

pub step_none : (n x : ℕ) → n ≤ x → x < first_settle → false ≡ is_step n x
step_none n x h k = rw (le-ltb x n h, lt-leb first_settle x k)

pub step_settle : (n x : ℕ) → n ≤ x → first_settle ≤ x → ltb (x - first_settle) n ≡ is_step n x
step_settle n x h k = rw (le-ltb x n h, le-leb first_settle x k)

-- a number that is a step means a step of the network
pub step_in : (n x : ℕ) → n ≤ 16 → is_step n x ≡ true → StepIn n (step_of x)
step_in n x few e = go (ltb x first_settle) refl
  where
    go : (b : Bool) → ltb x first_settle ≡ b → StepIn n (cond b (row x) (settle (x - first_settle)))
    go true p = near (ltb x n) refl
      where
        near : (b : Bool) → ltb x n ≡ b → x < n
        near true q = ltb-true x n q
        near false q = clash (is_step n x) e (sym (step_none n x (ltb-false x n q) (ltb-true x first_settle p)))
    go false p = ltb-true (x - first_settle) n (step_settle n x (let h : first_settle ≤ x = ltb-false x first_settle p in omega arith) (ltb-false x first_settle p) ∙ e)

pub row_in_lem : (n x i : ℕ) → n ≤ 16 → is_step n x ≡ true → row i ≡ step_of x → i < n
row_in_lem n x i few e q = subst (StepIn n) (sym q) (step_in n x few e)

pub settle_in : (n x j : ℕ) → n ≤ 16 → is_step n x ≡ true → settle j ≡ step_of x → j < n
settle_in n x j few e q = subst (StepIn n) (sym q) (step_in n x few e)

pub all_in : (n : ℕ) (list : List ℕ) → n ≤ 16 → AllSteps n list → StepsIn n (map step_of list)
all_in n [] few s = tt
all_in n (x ∷ list) few s = (step_in n x few s.0, all_in n list few s.1)

-- ---- the check of a list

pub too_many : (n : ℕ) (list : List ℕ) → most_steps < length list → Err (TooMany 0 0) ≡ first_of ((many_case list).check ∷ (list_case n list).check ∷ [])
too_many n list h = rw (lt-leb (length list) most_steps h)

pub list_start : (n : ℕ) (list : List ℕ) → length list ≤ most_steps → first_of ((many_case list).check ∷ (list_case n list).check ∷ []) ≡ steps_from n 0 (drop 0 list)
list_start n list h = rw (le-leb (length list) most_steps h) (or_passed (list_case n list).check)

module _ (n : ℕ) (list : List ℕ) (k : ℕ) where
  abbrev here : ℕ
  here = get_or list k 0

  pub list_more : k < length list → is_step n here ≡ true → steps_from n k (drop k list) ≡ steps_from n (k + 1) (drop (k + 1) list)
  list_more h e = rw (add-one k, drop-cons list k 0 h, e)

  pub list_bad : k < length list → is_step n here ≡ false → steps_from n k (drop k list) ≡ Err (NoSuch 0 k)
  list_bad h e = rw (drop-cons list k 0 h, e)

  pub list_end_lem : k ≡ length list → steps_from n k (drop k list) ≡ Ok tt
  list_end_lem e = rw (drop_of_length-le list {i = k} (omega arith))

  pub steps_here : k < length list → AllSteps n (drop k list) → is_step n here ≡ true
  steps_here h s = (rw (drop-cons list k 0 h) at s).0

  pub steps_after : k < length list → AllSteps n (drop k list) → AllSteps n (drop (k + 1) list)
  steps_after h s = rw (add-one k) (rw (drop-cons list k 0 h) at s).1

-- a list that passes has steps alone
steps_pass : (n k : ℕ) (list : List ℕ) → steps_from n k list ≡ Ok tt → AllSteps n list
steps_pass n k [] e = tt
steps_pass n k (x ∷ list) e = go (is_step n x) refl e (steps_pass n (suc k) list)
  where
    go : (b : Bool) → is_step n x ≡ b → cond b (steps_from n (suc k) list) (Err (NoSuch 0 k)) ≡ Ok tt → (steps_from n (suc k) list ≡ Ok tt → AllSteps n list) → (is_step n x ≡ true) × AllSteps n list
    go true p q ih = (p, ih q)
    go false p q ih = absurd (passed_not (NoSuch 0 k) (sym q))

pub list_passed : (n : ℕ) (list : List ℕ) → first_of ((many_case list).check ∷ (list_case n list).check ∷ []) ≡ Ok tt → (length list ≤ most_steps) × AllSteps n list
list_passed n list e = go (leb (length list) most_steps) refl e
  where
    go : (b : Bool) → leb (length list) most_steps ≡ b → first_of (unless b (TooMany 0 0) ∷ (list_case n list).check ∷ []) ≡ Ok tt → (length list ≤ most_steps) × AllSteps n list
    go true p q = (leb-true (length list) most_steps p, steps_pass n 0 list (sym (or_passed (list_case n list).check) ∙ q))
    go false p q = absurd (passed_not (TooMany 0 0) (sym q))

-- .. and the other way round
steps_passed : (n k : ℕ) (list : List ℕ) → AllSteps n list → steps_from n k list ≡ Ok tt
steps_passed n k [] s = refl
steps_passed n k (x ∷ list) s = rw s.0 (steps_passed n (suc k) list s.1)

pub passed_list : (n : ℕ) (list : List ℕ) → length list ≤ most_steps → AllSteps n list → first_of ((many_case list).check ∷ (list_case n list).check ∷ []) ≡ Ok tt
passed_list n list h s = rw (le-leb (length list) most_steps h) (or_passed (list_case n list).check ∙ steps_passed n 0 list s)

pub all_front : (n : ℕ) (xs ys : List ℕ) → AllSteps n (xs ++ ys) → AllSteps n xs
all_front n [] ys s = tt
all_front n (x ∷ xs) ys s = (s.0, all_front n xs ys s.1)

pub all_back : (n : ℕ) (xs ys : List ℕ) → AllSteps n (xs ++ ys) → AllSteps n ys
all_back n [] ys s = s
all_back n (x ∷ xs) ys s = all_back n xs ys s.1

-- ---- a run, one step further

module _ (cs : List Component) (n : ℕ) (a r r' : List ℕ) (list : List ℕ) (k : ℕ) (h : k < length list) where
  abbrev fit : Bool
  fit = step_fits cs n (matrix_in places n a) (matrix_in places n r) (step_of (get_or list k 0))

  pub left_more : fit ≡ true → r' ≡ step_left cs n a r (step_of (get_or list k 0)) → run_left cs n a r (map step_of (drop k list)) ≡ run_left cs n a r' (map step_of (drop (k + 1) list))
  unfolding run_left
  left_more e q = rw (add-one k, drop-cons list k 0 h, e, q)

  pub left_stop : fit ≡ false → r' ≡ step_left cs n a r (step_of (get_or list k 0)) → r' ≡ run_left cs n a r (map step_of (drop k list))
  unfolding run_left
  left_stop e q = rw (drop-cons list k 0 h, e) q

  pub done_more : fit ≡ true → r' ≡ step_left cs n a r (step_of (get_or list k 0)) → k + run_done cs n a r (map step_of (drop k list)) ≡ k + 1 + run_done cs n a r' (map step_of (drop (k + 1) list))
  unfolding run_done
  done_more e q = rw (add-one k, drop-cons list k 0 h, e, q) (omega arith)

  pub done_stop : fit ≡ false → k + run_done cs n a r (map step_of (drop k list)) ≡ k
  unfolding run_done
  done_stop e = rw (drop-cons list k 0 h, e) (omega arith)

pub left_end : (cs : List Component) (n : ℕ) (a r : List ℕ) (list : List ℕ) (k : ℕ) → k ≡ length list → run_left cs n a r (map step_of (drop k list)) ≡ r
unfolding run_left
left_end cs n a r list k e = rw (drop_of_length-le list {i = k} (omega arith))

pub done_end : (cs : List Component) (n : ℕ) (a r : List ℕ) (list : List ℕ) (k : ℕ) → k ≡ length list → k + run_done cs n a r (map step_of (drop k list)) ≡ k
unfolding run_done
done_end cs n a r list k e = rw (drop_of_length-le list {i = k} (omega arith)) (omega arith)

-- ---- what the two kinds of step leave

module _ (cs : List Component) (n : ℕ) (a r left : List ℕ) {s : Step} where
  pub row_fits_lem : (i : ℕ) {ok : Bool} → row i ≡ s → ok ≡ row_fits cs n (matrix_in places n a) (matrix_in places n r) i → ok ≡ step_fits cs n (matrix_in places n a) (matrix_in places n r) s
  row_fits_lem i {ok} q e = subst (λ (z : Step). ok ≡ step_fits cs n (matrix_in places n a) (matrix_in places n r) z) q e

  pub row_left_lem : (i : ℕ) → row i ≡ s → left ≡ matrix_words n (stepped cs n (matrix_in places n a) (matrix_in places n r) i) → left ≡ step_left cs n a r s
  unfolding step_left
  row_left_lem i q e = subst (λ (z : Step). left ≡ matrix_words n (cond (step_fits cs n (matrix_in places n a) (matrix_in places n r) z) (step (language cs) n (matrix_in places n a) z (matrix_in places n r)) (matrix_in places n r))) q e

  pub settle_fits : (j : ℕ) → settle j ≡ s → true ≡ step_fits cs n (matrix_in places n a) (matrix_in places n r) s
  settle_fits j q = subst (λ (z : Step). true ≡ step_fits cs n (matrix_in places n a) (matrix_in places n r) z) q refl

  pub settle_left_lem : (j : ℕ) → settle j ≡ s → left ≡ matrix_words n (step (language cs) n (matrix_in places n a) (settle j) (matrix_in places n r)) → left ≡ step_left cs n a r s
  unfolding step_left
  settle_left_lem j q e = subst (λ (z : Step). left ≡ matrix_words n (cond (step_fits cs n (matrix_in places n a) (matrix_in places n r) z) (step (language cs) n (matrix_in places n a) z (matrix_in places n r)) (matrix_in places n r))) q e

-- after a step the matrix is well formed again
pub step_given : (p : PerPlace Component) (n : ℕ) (a r : List ℕ) → Given (places_of p) n a r → (s : Step) (left : List ℕ) → left ≡ step_left (places_of p) n a r s → Given (places_of p) n a left
unfolding step_left
step_given p n a r g (row i) left e = row_given p n a r g i left e
step_given p n a r g (settle j) left e = settle_given p n a r g j left e

-- ---- a run in the midst: after k steps the buffer holds r, which the rest of the list goes on from

pub record Running (p : PerPlace Component) (n : ℕ) (a start : List ℕ) (list : List ℕ) (k : ℕ) (r : List ℕ) : Type 0 where
  pub well : Given (places_of p) n a r
  pub steps : AllSteps n (drop k list)
  pub left : run_left (places_of p) n a start (map step_of list) ≡ run_left (places_of p) n a r (map step_of (drop k list))
  pub done : run_done (places_of p) n a start (map step_of list) ≡ k + run_done (places_of p) n a r (map step_of (drop k list))

pub running_none : (p : PerPlace Component) (n : ℕ) (a r list : List ℕ) → Given (places_of p) n a r → AllSteps n list → Running p n a r list 0 r
running_none p n a r list g s = record { well = g; steps = s; left = refl; done = omega arith }

module _ (p : PerPlace Component) (n : ℕ) (a start list : List ℕ) (k : ℕ) (r r' : List ℕ) (o : Running p n a start list k r) where
  module _ (h : k < length list) (e : r' ≡ step_left (places_of p) n a r (step_of (get_or list k 0))) where
    pub running_more : {ok : Bool} → ok ≡ step_fits (places_of p) n (matrix_in places n a) (matrix_in places n r) (step_of (get_or list k 0)) → ok ≡ true → Running p n a start list (k + 1) r'
    running_more f t = record {
      well = step_given p n a r o.well (step_of (get_or list k 0)) r' e;
      steps = steps_after n list k h o.steps;
      left = o.left ∙ left_more (places_of p) n a r r' list k h (sym f ∙ t) e;
      done = o.done ∙ done_more (places_of p) n a r r' list k h (sym f ∙ t) e;
    }

    pub running_stop : {ok : Bool} → ok ≡ step_fits (places_of p) n (matrix_in places n a) (matrix_in places n r) (step_of (get_or list k 0)) → ok ≡ false
        → (k ≡ run_done (places_of p) n a start (map step_of list)) × (r' ≡ run_left (places_of p) n a start (map step_of list))
    running_stop f t = (
      sym (o.done ∙ done_stop (places_of p) n a r r' list k h (sym f ∙ t)),
      left_stop (places_of p) n a r r' list k h (sym f ∙ t) e ∙ sym o.left,
    )

  pub running_all : k ≡ length list → (k ≡ run_done (places_of p) n a start (map step_of list)) × (r ≡ run_left (places_of p) n a start (map step_of list))
  running_all e = (sym (o.done ∙ done_end (places_of p) n a r list k e), sym (o.left ∙ left_end (places_of p) n a r list k e))
