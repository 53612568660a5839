-- The n settles repair every matrix that passes the checks: a call with settles alone is never refused 11, and after the n settles the
-- new row is the one lent.
use Prim.Native.Nat.{ℕ, zero, suc, ◌+◌, ◌*◌, ◌-◌, ◌≤◌, ◌<◌}
use mathlib.Core.Path.{◌≡◌, refl, sym, ap, ◌∙◌}
use mathlib.Core.Bool.{true}
use mathlib.Core.List.{List, [], ◌∷◌, ◌++◌, map}
use mathlib.Core.Logic.{◌⊎◌, inl, inr}
use native.Mathlib.Omega.{arith}
use lib.ListN.{length, length-append}
use borrow.Author.Tests.{lt-ltb, le-ltb}
use Rattle.refusals.specs.Told.{done}
use Rattle.refusals.proofs.First.{first_passes}
use Rattle.algebra.specs.Path.{Mem}
use Rattle.algebra.specs.Step.{settle, step}
use Rattle.algebra.proofs.Orders.{below_suc}
use Rattle.algebra.proofs.Enumeration.{mem_left, mem_right}
use Rattle.weights.specs.declared.Component.{Component}
use Rattle.weights.specs.Sizes.{weight_words}
use Rattle.weights.specs.Weights.{language}
use Rattle.weights.specs.Languages.{SmallLimits}
use Rattle.matrices.specs.Steps.{Matrix}
use Rattle.guards.specs.Checks.{first_settle, most_steps, is_step, many_case, list_case}
use Rattle.routes.specs.Calls.{step_of, done_of, steps_check, StepsRow, steps_row, steps_left, equation_check, equation_cases}
use Rattle.routes.specs.Ready.{AllSteps}
use Rattle.routes.proofs.Order.{rest_goes_on}
use Rattle.guards.proofs.Singles.{nodes_passed}
use Rattle.routes.proofs.Lists.{step_settle, passed_list}
use Rattle.handover.specs.Calls.{best_words, row_part, lent_row}
use Rattle.handovers.specs.Handovers.{SettlesOnly, settles, SettlesAll}
use Rattle.handovers.proofs.Recipe.{settling_repairs}
use Rattle.handovers.proofs.Lent.{settling_lends_new}
use Rattle.refusals.specs.Cases.{checks_of}
use Rattle.routes.proofs.Answers.{row_by_lem, row_by}
use Rattle.guards.specs.OnNetwork.{OnNetwork, components, matrix_on, arcs_on}
use Rattle.std.specs.Prelude.{Ok}

-- ---- settles alone

settle_is_step : (n x : ℕ) → n ≤ 16 → first_settle ≤ x → x < first_settle + n → is_step n x ≡ true
settle_is_step n x few low high = sym (step_settle n x (omega arith) low) ∙ lt-ltb (x - first_settle) n (omega arith)

settles_are_steps : (n : ℕ) (list : List ℕ) → n ≤ 16 → SettlesOnly n list → AllSteps n list
settles_are_steps n [] few s = tt
settles_are_steps n (x ∷ list) few s = (settle_is_step n x few s.0.0 s.0.1, settles_are_steps n list few s.1)

-- each of them is done
all_done : (cs : List Component) (n : ℕ) (A R : Matrix) (list : List ℕ) → SettlesOnly n list → done_of cs n A R (map step_of list) ≡ length list
unfolding done_of
all_done cs n A R [] s = refl
all_done cs n A R (x ∷ list) s = rw (le-ltb x first_settle s.0.0) (ap suc (all_done cs n A (step (language cs) n A (settle (x - first_settle)) R) list s.1))

module _ (N : OnNetwork) (r : List ℕ) (p : equation_check N r ≡ Ok tt) where
  open N use {n, arcs}

  -- A call with settles alone, in any order, at most 4,096, is done: from every matrix that passes the checks.
  pub settles_only_done : (list : List ℕ) → SettlesOnly n list → length list ≤ most_steps → steps_row N r list ≡ record { told = done; done = length list }
  settles_only_done list s h =
      row_by_lem N r list passes
      ∙ ap (λ (k : ℕ). row_by (Ok tt) k (length list)) (all_done (components N) n (arcs_on N) (matrix_on N r) list s)
      ∙ rw (le-ltb (length list) (length list) (omega arith))
    where
      few : n ≤ 16
      few = (nodes_passed n (first_passes (checks_of (equation_cases N r)) p).0).1

      passes : steps_check N r list ≡ Ok tt
      passes = rest_goes_on N r (many_case list ∷ list_case n list ∷ []) p (passed_list n list h (settles_are_steps n list few s))

-- ---- the n settles

length_settles : (n : ℕ) → length (settles n) ≡ n
length_settles zero = refl
length_settles (suc n) = omega (arith, length-append (settles n) ((first_settle + n) ∷ []), length_settles n)

only_append : (n : ℕ) (xs ys : List ℕ) → SettlesOnly n xs → SettlesOnly n ys → SettlesOnly n (xs ++ ys)
only_append n [] ys s t = t
only_append n (x ∷ xs) ys s t = (s.0, only_append n xs ys s.1 t)

settles_only : (n k : ℕ) → k ≤ n → SettlesOnly n (settles k)
settles_only n zero h = tt
settles_only n (suc k) h = only_append n (settles k) ((first_settle + k) ∷ []) (settles_only n k (omega arith)) ((omega arith, omega arith), tt)

-- They settle every column.
pub settles_all : (n : ℕ) → SettlesAll n (settles n)
settles_all zero j h = absurd (omega arith)
settles_all (suc n) j h = go (below_suc j n h) (settles_all n j)
  where
    go : (j < n) ⊎ (j ≡ n) → (j < n → Mem (first_settle + j) (settles n)) → Mem (first_settle + j) (settles n ++ ((first_settle + n) ∷ []))
    go (inl k) ih = mem_left (first_settle + j) (settles n) ((first_settle + n) ∷ []) (ih k)
    go (inr e) ih = mem_right (first_settle + j) (settles n) ((first_settle + n) ∷ []) (inl (ap (first_settle +◌) e))

module _ (N : OnNetwork) (r : List ℕ) (p : equation_check N r ≡ Ok tt) where
  open N use {n, arcs}

  -- The call with the n settles is done, from every matrix that passes the checks ..
  pub settles_done : steps_row N r (settles n) ≡ record { told = done; done = n }
  settles_done =
      let few = (nodes_passed n (first_passes (checks_of (equation_cases N r)) p).0).1 in
      settles_only_done N r p (settles n) (settles_only n n (omega arith)) (omega (arith, length_settles n))
      ∙ ap (λ (k : ℕ). record { told = done; done = k }) (length_settles n)

  abbrev left : List ℕ
  left = steps_left N r (settles n)

  module _ (limits : SmallLimits 65535 (components N)) where
    told_done : (steps_row N r (settles n)).told ≡ done
    told_done = ap (λ (w : StepsRow). w.told) settles_done

    -- .. it leaves the best matrix, whatever the buffer held before ..
    pub settles_repair : left ≡ best_words N
    settles_repair = settling_repairs N r (settles n) limits told_done (settles_all n)

    -- .. and then the new row is the one lent, for every standing matrix of the right length and every node.
    pub settles_lend_new : (standing : List ℕ) (i : ℕ) → length standing ≡ n * (n * weight_words) → i < n → lent_row N standing left i ≡ row_part n i left
    settles_lend_new standing i = settling_lends_new N r (settles n) standing i limits told_done (settles_all n)
