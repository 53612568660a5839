-- What holds of every matrix that steps reach from the fresh one, and of a column that is settled or satisfies the equation.
use Prim.Native.Nat.{ℕ, zero, suc, ◌+◌, ◌≤◌, ◌<◌}
use mathlib.Core.Path.{◌≡◌, refl, subst}
use mathlib.Core.Bool.{Bool, true, false, cond}
use mathlib.Core.Logic.{◌⊎◌, inl, inr}
use mathlib.Core.List.{List, [], ◌∷◌, ◌++◌}
use lib.Dec.{eqb}
use lib.ListN.{length}
use borrow.Author.Tests.{eq-eqb}
use native.Mathlib.Omega.{arith}
use native.Mathlib.Nat.{zero-add, suc-add, add-suc}
use Rattle.algebra.specs.Algebra.{Algebra, order}
use Rattle.algebra.specs.Path.{Mem, Simple, Matrix, path_weight}
use Rattle.algebra.specs.Best.{OfSimplePath, best}
use Rattle.algebra.specs.Step.{Step, row, settle, EveryRow, Stretches, fresh, routed, Solves, step, run, reached}
use Rattle.algebra.specs.Demand.{HoldsBest}
use Rattle.algebra.proofs.Orders.{NoWorse, nw_refl, nw_trans, nw_antisym}
use Rattle.algebra.specs.Network.{Network}
use Rattle.algebra.proofs.Bests.{best_is, best_nw_held}
use Rattle.algebra.proofs.Column.{Sane, Moved, moved_down, moved_sane, supported_held, fresh_sane, best_sane, stay_best, Near, near_fresh, near_down, near_routed, near_best}

pub run_append : (𝓐 : Algebra) (n : ℕ) (A : Matrix 𝓐) (s t : List Step) (R : Matrix 𝓐) → run 𝓐 n A (s ++ t) R ≡ run 𝓐 n A t (run 𝓐 n A s R)
run_append 𝓐 n A [] t R = refl
run_append 𝓐 n A (x ∷ s) t R = run_append 𝓐 n A s t (step 𝓐 n A x R)

-- one column

module _ (N : Network) (j : ℕ) where
  open N use {𝓐, 𝓛, n, A, arcs_valid}
  open 𝓐 use {Weight, Valid, better, join, unit, none}

  infix 50 ◌≼◌
  abbrev ◌≼◌ : Weight → Weight → Type 0
  ◌≼◌ = NoWorse (order 𝓐)

  -- a step recomputes rows, or makes the column best
  kind : (s : Step) (R : Matrix 𝓐) → Moved N j R (step 𝓐 n A s R) ⊎ HoldsBest 𝓐 n A (step 𝓐 n A s R) j
  kind (row i) R = inl (λ u h. go (eqb u i) (routed 𝓐 n A R u j) (R u j))
    where
      go : (b : Bool) (x y : Weight) → (cond b x y ≡ y) ⊎ (cond b x y ≡ x)
      go true x y = inr refl
      go false x y = inl refl
  kind (settle k) R = go (eqb j k) refl
    where
      go : (b : Bool) → eqb j k ≡ b → Moved N j R (step 𝓐 n A (settle k) R) ⊎ HoldsBest 𝓐 n A (step 𝓐 n A (settle k) R) j
      go true e = inr (λ i h. rw e (best_is N i j h))
      go false e = inl (λ i h. inl (rw e))

  step_sane : (s : Step) (R : Matrix 𝓐) → Sane 𝓐 A j n R → Sane 𝓐 A j n (step 𝓐 n A s R)
  step_sane s R c = go (kind s R)
    where
      go : Moved N j R (step 𝓐 n A s R) ⊎ HoldsBest 𝓐 n A (step 𝓐 n A s R) j → Sane 𝓐 A j n (step 𝓐 n A s R)
      go (inl m) = moved_sane N j R (step 𝓐 n A s R) c m
      go (inr b) = best_sane N j (step 𝓐 n A s R) b

  step_down : (s : Step) (R : Matrix 𝓐) → Sane 𝓐 A j n R → (i : ℕ) → i < n → step 𝓐 n A s R i j ≼ R i j
  step_down s R c i h = go (kind s R)
    where
      go : Moved N j R (step 𝓐 n A s R) ⊎ HoldsBest 𝓐 n A (step 𝓐 n A s R) j → step 𝓐 n A s R i j ≼ R i j
      go (inl m) = moved_down N j R (step 𝓐 n A s R) c m i h
      go (inr b) = best_nw_held N (b i h) (supported_held N j R i (c.paths i h))

  run_sane : (steps : List Step) (R : Matrix 𝓐) → Sane 𝓐 A j n R → Sane 𝓐 A j n (run 𝓐 n A steps R)
  run_sane [] R c = c
  run_sane (s ∷ steps) R c = run_sane steps (step 𝓐 n A s R) (step_sane s R c)

  run_down : (steps : List Step) (R : Matrix 𝓐) → Sane 𝓐 A j n R → (i : ℕ) → i < n → run 𝓐 n A steps R i j ≼ R i j
  run_down [] R c i h = nw_refl (order 𝓐) 𝓛.ordered (c.falls i h).right
  run_down (s ∷ steps) R c i h = nw_trans (order 𝓐) 𝓛.ordered (run_down steps (step 𝓐 n A s R) (step_sane s R c) i h) (step_down s R c i h)

  -- a stretch with row step i reaches one arc further from i
  reach_row : (m : ℕ) (steps : List Step) (R : Matrix 𝓐) → Sane 𝓐 A j n R → Near N j m R → (i : ℕ) → i < n → Mem (row i) steps →
      (p : List ℕ) → Simple n i j p → length p ≤ suc m → run 𝓐 n A steps R i j ≼ path_weight 𝓐 A i p
  reach_row m [] R c r i h o p t l = absurd o
  reach_row m (s ∷ steps) R c r i h (inl e) p t l =
      nw_trans (order 𝓐) 𝓛.ordered (run_down steps (step 𝓐 n A s R) (step_sane s R c) i h) (subst (λ (x : Step). step 𝓐 n A x R i j ≼ path_weight 𝓐 A i p) e here)
    where
      here : step 𝓐 n A (row i) R i j ≼ path_weight 𝓐 A i p
      here = rw (eq-eqb i i refl) (near_routed N j m R c r i h p t l)
  reach_row m (s ∷ steps) R c r i h (inr o) p t l =
      reach_row m steps (step 𝓐 n A s R) (step_sane s R c) (near_down N j m R (step 𝓐 n A s R) (step_down s R c) r) i h o p t l

  reach : (m : ℕ) (steps : List Step) (R : Matrix 𝓐) → Sane 𝓐 A j n R → EveryRow n steps → Near N j m R → Near N j (suc m) (run 𝓐 n A steps R)
  reach m steps R c every r i h p t l = reach_row m steps R c r i h (every i h) p t l

  -- m stretches reach m arcs further
  reach_all : (m k : ℕ) (steps : List Step) (R : Matrix 𝓐) → Sane 𝓐 A j n R → Near N j k R → Stretches n m steps → Near N j (m + k) (run 𝓐 n A steps R)
  reach_all zero k steps R c r t = near_down N j (0 + k) R (run 𝓐 n A steps R) (run_down steps R c) (rw zero-add r)
  reach_all (suc m) k steps R c r (first, others, e, every, t) =
      rw (e, run_append 𝓐 n A first others R, suc-add m k, ← (add-suc m k)) (reach_all m (suc k) others (run 𝓐 n A first R) (run_sane first R c) (reach k first R c every r) t)

  -- a column that a stretch leaves as it is, is reached from however far
  reach_quiet : (steps : List Step) (R : Matrix 𝓐) → Sane 𝓐 A j n R → EveryRow n steps → ((i : ℕ) → i < n → run 𝓐 n A steps R i j ≡ R i j) → Near N j 0 R → (m : ℕ) → Near N j m R
  reach_quiet steps R c every q r zero = r
  reach_quiet steps R c every q r (suc m) = λ i h p t l.
      subst (λ (x : Weight). x ≼ path_weight 𝓐 A i p) (q i h) (reach m steps R c every (reach_quiet steps R c every q r m) i h p t l)

-- from any matrix: a column holds the best from its settle on
module _ (N : Network) (R : Matrix N.𝓐) (j : ℕ) where
  open N use {𝓐, n, A}

  settled : Matrix 𝓐
  settled = step 𝓐 n A (settle j) R

  settled_now : HoldsBest 𝓐 n A settled j
  unfolding settled
  settled_now i h = rw (eq-eqb j j refl) (best_is N i j h)

  settled_sane : Sane 𝓐 A j n settled
  settled_sane = best_sane N j settled settled_now

  pub settled_from_any : (more : List Step) → HoldsBest 𝓐 n A (run 𝓐 n A (settle j ∷ more) R) j
  unfolding settled
  settled_from_any more = stay_best N j settled (run 𝓐 n A more settled) settled_now (run_sane N j more settled settled_sane) (run_down N j more settled settled_sane)

-- The theorems: of a network and the matrix that any steps reach from the fresh one.
module _ (N : Network) where
  open N use {𝓐, 𝓛, n, A, arcs_valid}
  open 𝓐 use {Weight, Valid, better, join, unit, none}

  sane : (steps : List Step) (j : ℕ) → Sane 𝓐 A j n (reached 𝓐 n A steps)
  sane steps j = run_sane N j steps (fresh 𝓐) (fresh_sane N j)

  -- every entry is no route or the weight of a simple path ..
  pub entry_held : (steps : List Step) (i j : ℕ) → i < n → OfSimplePath 𝓐 n A i j (reached 𝓐 n A steps i j)
  entry_held steps i j h = supported_held N j (reached 𝓐 n A steps) i ((sane steps j).paths i h)

  -- .. so none is better than the best
  pub never_better : (steps : List Step) (i j : ℕ) → i < n → better (reached 𝓐 n A steps i j) (best 𝓐 n A i j) ≡ false
  never_better steps i j h = (best_nw_held N (best_is N i j h) (entry_held steps i j h)).test

  -- further steps make no entry worse
  pub never_worse : (steps more : List Step) (i j : ℕ) → i < n → better (reached 𝓐 n A steps i j) (reached 𝓐 n A (steps ++ more) i j) ≡ false
  never_worse steps more i j h = rw (run_append 𝓐 n A steps more (fresh 𝓐)) (run_down N j more (reached 𝓐 n A steps) (sane steps j) i h).test

  -- what holds the best once stays so
  pub stays_best : (steps more : List Step) (j : ℕ) → HoldsBest 𝓐 n A (reached 𝓐 n A steps) j → HoldsBest 𝓐 n A (reached 𝓐 n A (steps ++ more)) j
  stays_best steps more j b = rw (run_append 𝓐 n A steps more (fresh 𝓐)) (stay_best N j (reached 𝓐 n A steps) (run 𝓐 n A more (reached 𝓐 n A steps)) b (run_sane N j more (reached 𝓐 n A steps) (sane steps j)) (run_down N j more (reached 𝓐 n A steps) (sane steps j)))

  -- a column that has been settled holds the best, whatever follows
  pub settled_best : (steps more : List Step) (j : ℕ) → HoldsBest 𝓐 n A (reached 𝓐 n A (steps ++ settle j ∷ more)) j
  settled_best steps more j = rw (run_append 𝓐 n A steps (settle j ∷ more) (fresh 𝓐)) (settled_from_any N (reached 𝓐 n A steps) j more)

  -- after n - 1 stretches that update every row, every column holds the best
  pub swept_best : (m : ℕ) (steps : List Step) → n ≤ suc m → Stretches n m steps → (j : ℕ) → HoldsBest 𝓐 n A (reached 𝓐 n A steps) j
  swept_best m steps l t j =
      near_best N j (m + 0) (reached 𝓐 n A steps) (sane steps j) (omega arith)
      (reach_all N j m 0 steps (fresh 𝓐) (fresh_sane N j) (near_fresh N j) t)

  -- what a row step stores is no route or the weight of a simple path, which has less than n arcs
  pub stored_held : (steps : List Step) (i j : ℕ) → i < n → OfSimplePath 𝓐 n A i j (routed 𝓐 n A (reached 𝓐 n A steps) i j)
  stored_held steps i j h = supported_held N j S i ((moved_sane N j (reached 𝓐 n A steps) S (sane steps j) (λ u l. inr refl)).paths i h)
    where
      S : Matrix 𝓐
      S = routed 𝓐 n A (reached 𝓐 n A steps)

  -- a column of best weights satisfies the routing equation
  pub column_solves : (R : Matrix 𝓐) (j : ℕ) → HoldsBest 𝓐 n A R j → (i : ℕ) → i < n → R i j ≡ routed 𝓐 n A R i j
  column_solves R j b i h = nw_antisym (order 𝓐) 𝓛.ordered (best_nw_held N (b i h) (supported_held N j (routed 𝓐 n A R) i (next.paths i h))) (c.falls i h)
    where
      c : Sane 𝓐 A j n R
      c = best_sane N j R b

      next : Sane 𝓐 A j n (routed 𝓐 n A R)
      next = moved_sane N j R (routed 𝓐 n A R) c (λ u l. inr refl)

  -- the best matrix satisfies the routing equation
  pub best_solves : Solves 𝓐 n A (best 𝓐 n A)
  best_solves i j h l = column_solves (best 𝓐 n A) j (λ k o. best_is N k j o) i h

  -- a stretch that updates every row and changes nothing in column j shows that column j holds the best
  pub quiet_best : (steps stretch : List Step) (j : ℕ) → EveryRow n stretch → ((i : ℕ) → i < n → reached 𝓐 n A (steps ++ stretch) i j ≡ reached 𝓐 n A steps i j) → HoldsBest 𝓐 n A (reached 𝓐 n A steps) j
  quiet_best steps stretch j every q =
      near_best N j n (reached 𝓐 n A steps) (sane steps j) (omega arith)
      (reach_quiet N j stretch (reached 𝓐 n A steps) (sane steps j) every (λ i h. rw (run_append 𝓐 n A steps stretch (fresh 𝓐)) at (q i h))
      (near_down N j 0 (fresh 𝓐) (reached 𝓐 n A steps) (run_down N j steps (fresh 𝓐) (fresh_sane N j)) (near_fresh N j)) n)
