-- Step calls on a matrix that steps reached from fresh: it passes its check, no row step is refused 11, and the run is the steps' own.
use Prim.Native.Nat.{ℕ, suc, ◌≤◌, ◌<◌}
use mathlib.Core.Path.{◌≡◌, refl, sym, ap, ap₂, ◌∙◌}
use mathlib.Core.Bool.{true, cond}
use mathlib.Core.List.{List, [], ◌∷◌, ◌++◌, map, append_assoc, append-nil}
use native.Mathlib.Omega.{arith}
use lib.Dec.{eqb}
use lib.ListN.{length}
use borrow.Author.Tests.{le-leb}
use Rattle.algebra.specs.Network.{Network}
use Rattle.algebra.specs.Best.{best}
use Rattle.algebra.specs.Step.{Step, row, settle, fresh, routed, step, reached}
use Rattle.algebra.proofs.Bests.{held_valid}
use Rattle.algebra.proofs.Bound.{entry_fits_lem, stored_fits}
use Rattle.algebra.proofs.Reach.{entry_held, run_append}
use Rattle.algebra.proofs.Still.{Agree, routed_agree}
use Rattle.weights.specs.declared.Component.{Component}
use Rattle.weights.specs.declared.Component.TheVariants.{Dist, Width, Class, Gain}
use Rattle.weights.specs.Sizes.{places, ones, arc_sum, matrix_sum}
use Rattle.weights.specs.Weights.{Weight, none, route, Valid, ValidValues, Sound, language}
use Rattle.weights.specs.Laws.{test_d, test_u}
use Rattle.weights.specs.Languages.{SmallLimits}
use Rattle.weights.specs.Words.{reading, is_good, decoded}
use Rattle.weights.proofs.Languages.{lawful}
use Rattle.weights.specs.Written.{SumsUpTo, Written}
use Rattle.weights.proofs.Readings.{reads_back, reads_words, well_read}
use Rattle.weights.specs.Sums.{sum_of, sum_at}
use Rattle.weights.proofs.Sums.{sum_size, well_sum}
use Rattle.matrices.specs.Buffers.{matrix_words, cell, words_at, entry_place, matrix_in, Formed}
use Rattle.matrices.specs.Steps.{Matrix, sums_fit, weight_fits, row_fits}
use Rattle.matrices.proofs.Entries.{matrix_four, length_matrix}
use Rattle.matrices.proofs.Every.{every_cong, every_all}
use Rattle.routes.specs.Calls.{step_of, step_fits, run_of, done_of}
use Rattle.routes.proofs.Bridge.{StepIn, StepsIn, entry_valid}

-- a list has as many steps as numbers
pub length_steps : (xs : List ℕ) → length (map step_of xs) ≡ length xs
length_steps [] = refl
length_steps (x ∷ xs) = ap suc (length_steps xs)

-- ---- small sums fit

sums_fit_lem : (cs : List Component) (xs : List ℕ) → ((c : ℕ) → sum_of cs c xs ≤ matrix_sum) → sums_fit cs xs ≡ true
sums_fit_lem [] xs h = refl
sums_fit_lem (c ∷ cs) [] h = refl
sums_fit_lem (Dist ∷ cs) (x ∷ xs) h = rw (le-leb x matrix_sum (h 0)) (sums_fit_lem cs xs (λ c. h (suc c)))
sums_fit_lem (Width w ∷ cs) (x ∷ xs) h = sums_fit_lem cs xs (λ c. h (suc c))
sums_fit_lem (Class k ∷ cs) (x ∷ xs) h = sums_fit_lem cs xs (λ c. h (suc c))
sums_fit_lem (Gain ∷ cs) (x ∷ xs) h = rw (le-leb x matrix_sum (h 0)) (sums_fit_lem cs xs (λ c. h (suc c)))

weight_fits_lem : (cs : List Component) (w : Weight) → ((c : ℕ) → sum_at cs c w ≤ matrix_sum) → weight_fits cs w ≡ true
weight_fits_lem cs none h = refl
weight_fits_lem cs (route xs) h = sums_fit_lem cs xs h

sums_up : (cs : List Component) (xs : List ℕ) → ((c : ℕ) → sum_of cs c xs ≤ matrix_sum) → SumsUpTo matrix_sum cs xs
sums_up [] xs h = tt
sums_up (c ∷ cs) [] h = tt
sums_up (Dist ∷ cs) (x ∷ xs) h = (h 0, sums_up cs xs (λ c. h (suc c)))
sums_up (Width w ∷ cs) (x ∷ xs) h = sums_up cs xs (λ c. h (suc c))
sums_up (Class k ∷ cs) (x ∷ xs) h = sums_up cs xs (λ c. h (suc c))
sums_up (Gain ∷ cs) (x ∷ xs) h = (h 0, sums_up cs xs (λ c. h (suc c)))

small_first : (c : Component) (cs : List Component) (x : ℕ) (xs : List ℕ) → SmallLimits 65535 (c ∷ cs) → ValidValues (c ∷ cs) (x ∷ xs) → sum_of (c ∷ cs) 0 (x ∷ xs) ≤ matrix_sum → x < ones
small_first Dist cs x xs s v h = omega arith
small_first (Width w) cs x xs s v h = let k : w ≤ 65535 = s.0 in let m : x ≤ w = v.0.1 in omega arith
small_first (Class k) cs x xs s v h = let m : k ≤ 65535 = s.0 in let q : x ≤ k = v.0 in omega arith
small_first Gain cs x xs s v h = omega arith

written : (cs : List Component) (w : Weight) → SmallLimits 65535 cs → Valid cs w → ((c : ℕ) → sum_at cs c w ≤ matrix_sum) → Written matrix_sum cs w
written cs none s v h = record { valid = v; sums = tt; apart = tt }
written [] (route []) s v h = record { valid = v; sums = tt; apart = tt }
written [] (route (x ∷ xs)) s v h = absurd v
written (c ∷ cs) (route []) s v h = absurd v
written (c ∷ cs) (route (x ∷ xs)) s v h = record { valid = v; sums = sums_up (c ∷ cs) (x ∷ xs) h; apart = small_first c cs x xs s v (h 0) }

-- ---- a network of the language, its arcs read from a buffer

module _ (cs : List Component) (few : length cs ≤ places) (limits : SmallLimits 65535 cs) (sound : Sound cs) (d : test_d cs ≡ true) (u : test_u cs ≡ true) (n : ℕ) (a : List ℕ) (arcs : Formed arc_sum cs n a) where
  abbrev pub arcs_of : Matrix
  arcs_of = matrix_in (length cs) n a

  unfoldable pub network : Network
  network = record { 𝓐 = language cs; 𝓛 = lawful cs sound d u; n = n; A = arcs_of; arcs_valid = λ i k hi hk. entry_valid arc_sum cs n a few arcs i k hi hk }

  arc_sum_lem : (c i k : ℕ) → i < n → k < n → sum_at cs c (arcs_of i k) ≤ arc_sum
  unfolding cell
  arc_sum_lem c i k hi hk = well_sum arc_sum cs c (words_at a (entry_place n i k)) (well_read arc_sum cs (words_at a (entry_place n i k)) (arcs.reads i k hi hk))

  nodes : n ≤ suc 15
  nodes = let h : n ≤ 16 = arcs.square.few in omega arith

  pub reached_sum : (steps : List Step) (c i j : ℕ) → i < n → sum_at cs c (reached (language cs) n arcs_of steps i j) ≤ matrix_sum
  unfolding network
  reached_sum steps c i j hi = omega (arith, entry_fits_lem network (sum_at cs c) (sum_size cs c) 15 arc_sum nodes (λ v k hv hk. arc_sum_lem c v k hv hk) steps i j hi)

  pub stored_sum : (steps : List Step) (c i j : ℕ) → i < n → sum_at cs c (routed (language cs) n arcs_of (reached (language cs) n arcs_of steps) i j) ≤ matrix_sum
  unfolding network
  stored_sum steps c i j hi = omega (arith, stored_fits network (sum_at cs c) (sum_size cs c) 15 arc_sum nodes (λ v k hv hk. arc_sum_lem c v k hv hk) steps i j hi)

  reached_valid : (steps : List Step) (i j : ℕ) → i < n → Valid cs (reached (language cs) n arcs_of steps i j)
  unfolding network
  reached_valid steps i j hi = held_valid network (entry_held network steps i j hi)

  reached_written : (steps : List Step) (i j : ℕ) → i < n → Written matrix_sum cs (reached (language cs) n arcs_of steps i j)
  reached_written steps i j hi = written cs (reached (language cs) n arcs_of steps i j) limits (reached_valid steps i j hi) (λ c. reached_sum steps c i j hi)

  -- the words of a reached matrix are well formed, and stand for it
  pub reached_formed : (steps : List Step) → Formed matrix_sum cs n (matrix_words n (reached (language cs) n arcs_of steps))
  reached_formed steps = record {
    square = record { few = arcs.square.few; long = length_matrix n (reached (language cs) n arcs_of steps) };
    reads = λ i j hi hj. ap (λ (ws : List ℕ). is_good (reading matrix_sum cs ws)) (matrix_four n (reached (language cs) n arcs_of steps) i j hi hj) ∙ ap is_good (reads_words matrix_sum cs (reached (language cs) n arcs_of steps i j) few (reached_written steps i j hi));
  }

  pub reached_reads : (steps : List Step) (i j : ℕ) → i < n → j < n → matrix_in (length cs) n (matrix_words n (reached (language cs) n arcs_of steps)) i j ≡ reached (language cs) n arcs_of steps i j
  unfolding cell
  reached_reads steps i j hi hj =
      ap (decoded (length cs)) (matrix_four n (reached (language cs) n arcs_of steps) i j hi hj)
      ∙ reads_back cs (reached (language cs) n arcs_of steps i j) few (reached_valid steps i j hi) (reached_written steps i j hi).apart

  -- ---- no step is refused 11

  fits_agree : (R S : Matrix) → Agree (language cs) n arcs_of R S → (i : ℕ) → row_fits cs n arcs_of R i ≡ row_fits cs n arcs_of S i
  fits_agree R S e i = every_cong _ _ n (λ j hj. ap (weight_fits cs) (routed_agree (language cs) n arcs_of R S e i j hj))

  pub never_eleven : (steps : List Step) (R : Matrix) → Agree (language cs) n arcs_of R (reached (language cs) n arcs_of steps) → (s : Step) → StepIn n s → step_fits cs n arcs_of R s ≡ true
  never_eleven steps R e (row i) hi = fits_agree R (reached (language cs) n arcs_of steps) e i ∙ every_all _ n (λ j hj. weight_fits_lem cs (routed (language cs) n arcs_of (reached (language cs) n arcs_of steps) i j) (λ c. stored_sum steps c i j hi))
  never_eleven steps R e (settle j) hj = refl

  step_agree : (R S : Matrix) → Agree (language cs) n arcs_of R S → (s : Step) → Agree (language cs) n arcs_of (step (language cs) n arcs_of s R) (step (language cs) n arcs_of s S)
  step_agree R S e (row v) i j hi hj = ap₂ (cond (eqb i v)) (routed_agree (language cs) n arcs_of R S e i j hj) (e i j hi hj)
  step_agree R S e (settle v) i j hi hj = ap (λ (w : Weight). cond (eqb j v) (best (language cs) n arcs_of i j) w) (e i j hi hj)

  one_more : (steps : List Step) (s : Step) → step (language cs) n arcs_of s (reached (language cs) n arcs_of steps) ≡ reached (language cs) n arcs_of (steps ++ s ∷ [])
  one_more steps s = sym (run_append (language cs) n arcs_of steps (s ∷ []) (fresh (language cs)))

  -- a run from a reached matrix does every step, and reaches what all the steps reach
  pub runs_on : (steps more : List Step) (R : Matrix) → Agree (language cs) n arcs_of R (reached (language cs) n arcs_of steps) → StepsIn n more
      → (done_of cs n arcs_of R more ≡ length more) × Agree (language cs) n arcs_of (run_of cs n arcs_of R more) (reached (language cs) n arcs_of (steps ++ more))
  unfolding done_of run_of
  runs_on steps [] R e k = (refl, λ i j hi hj. e i j hi hj ∙ ap (λ (l : List Step). reached (language cs) n arcs_of l i j) (sym (append-nil steps)))
  runs_on steps (s ∷ more) R e k =
      let ih = runs_on (steps ++ s ∷ []) more (step (language cs) n arcs_of s R) (λ i j hi hj. step_agree R (reached (language cs) n arcs_of steps) e s i j hi hj ∙ ap (λ (M : Matrix). M i j) (one_more steps s)) k.1 in
      rw (never_eleven steps R e s k.0) (ap suc ih.0, λ i j hi hj. ih.1 i j hi hj ∙ ap (λ (l : List Step). reached (language cs) n arcs_of l i j) (append_assoc steps (s ∷ []) more))
