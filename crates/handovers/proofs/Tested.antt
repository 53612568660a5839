-- The test of the new matrix is exact: it holds where every entry is the best and well formed, and nowhere else.
use Prim.Native.Nat.{ℕ, ◌≤◌, ◌<◌}
use mathlib.Core.Path.{◌≡◌, sym, ap, subst, ◌∙◌}
use mathlib.Core.Bool.{true}
use mathlib.Core.List.{List}
use mathlib.Core.Logic.{◌↔◌}
use native.Mathlib.Omega.{arith}
use lib.ListN.{length}
use Rattle.refusals.specs.declared.Refusal.TheVariants.{Law}
use Rattle.refusals.proofs.First.{first_passes, unless_passes}
use Rattle.algebra.specs.Network.{Network}
use Rattle.algebra.specs.Best.{Best, best}
use Rattle.algebra.specs.Step.{sweeps, reached}
use Rattle.algebra.proofs.Bests.{best_is, best_unique}
use Rattle.algebra.proofs.Settling.{best_by_sweeps}
use Rattle.weights.specs.declared.Component.{Component}
use Rattle.weights.specs.Sizes.{arc_sum, matrix_sum}
use Rattle.weights.specs.Weights.{Weight, Sound, language}
use Rattle.weights.specs.Laws.{test_d, test_u}
use Rattle.weights.specs.Languages.{SmallLimits}
use Rattle.weights.specs.Words.{words, decoded}
use Rattle.weights.proofs.Checking.{few, limits_exact}
use Rattle.matrices.specs.Buffers.{matrix_words, cell, words_at, entry_place, Formed}
use Rattle.matrices.specs.Steps.{Matrix}
use Rattle.matrices.proofs.Entries.{matrix_cong, matrix_four}
use Rattle.matrices.proofs.Malformed.{check_formed}
use Rattle.routes.specs.Calls.{matrices_cases}
use Rattle.guards.proofs.Singles.{nodes_passed, length_passed}
use Rattle.histories.proofs.Reached.{network, reached_formed, reached_reads}
use Rattle.histories.proofs.Standing.{words_self}
use Rattle.handover.specs.Calls.{best_words, is_best}
use Rattle.holding.proofs.Words.{words_exactly}
use Rattle.handovers.specs.Handovers.{LawfulNetwork, EveryEntryBest}
use Rattle.refusals.specs.Cases.{Case, checks_of, check_of}
use Rattle.guards.specs.OnNetwork.{OnNetwork, components, matrix_on, arcs_on}
use Rattle.std.specs.Prelude.{Ok}

-- a call on A and R gives it
pub call_lawful : (N : OnNetwork) (r : List ℕ) (rest : List Case) → SmallLimits 65535 (components N) → check_of (matrices_cases N r rest) ≡ Ok tt → LawfulNetwork N
call_lawful N r rest limits p =
    let h = first_passes (checks_of (matrices_cases N r rest)) p in
    record { nodes = h.0; count = h.1.0; sound = h.1.1.0; long = h.1.1.1.0; law_d_holds = h.1.1.1.1.1.0; law_u_holds = h.1.1.1.1.1.1.0; arcs = h.1.1.1.1.1.1.1.0; limits = limits }

module _ (N : OnNetwork) (g : LawfulNetwork N) where
  open N use {n, arcs}

  abbrev cs : List Component
  cs = components N

  abbrev A : Matrix
  A = arcs_on N

  pub nodes_few : (1 ≤ n) × (n ≤ 16)
  nodes_few = nodes_passed n g.nodes

  pub D : test_d cs ≡ true
  D = unless_passes (test_d cs) (Law 1 0) g.law_d_holds

  pub U : test_u cs ≡ true
  U = unless_passes (test_u cs) (Law 2 0) g.law_u_holds

  pub S : Sound cs
  S = (limits_exact cs).0 g.sound

  pub well : Formed arc_sum cs n arcs
  well = check_formed 1 arc_sum cs n arcs (length_passed 1 n arcs nodes_few.1 g.long) g.arcs

  unfoldable pub net : Network
  net = network cs (few N.language) g.limits S D U n arcs well

  -- ---- the best matrix in a buffer

  by_sweeps : (i j : ℕ) → i < n → best (language cs) n A i j ≡ reached (language cs) n A (sweeps n n) i j
  unfolding net network
  by_sweeps i j hi = best_by_sweeps net n (omega arith) i j hi

  best_words_lem : best_words N ≡ matrix_words n (reached (language cs) n A (sweeps n n))
  best_words_lem = matrix_cong n (best (language cs) n A) (reached (language cs) n A (sweeps n n)) (λ i j hi hj. by_sweeps i j hi)

  pub best_formed : Formed matrix_sum cs n (best_words N)
  best_formed = subst (Formed matrix_sum cs n) (sym best_words_lem) (reached_formed cs (few N.language) g.limits S D U n arcs well (sweeps n n))

  pub best_reads : (i j : ℕ) → i < n → j < n → matrix_on N (best_words N) i j ≡ best (language cs) n A i j
  best_reads i j hi hj =
      ap (λ (s : List ℕ). matrix_on N s i j) best_words_lem ∙ reached_reads cs (few N.language) g.limits S D U n arcs well (sweeps n n) i j hi hj ∙ sym (by_sweeps i j hi)

  pub is_best_lem : (i j : ℕ) → i < n → Best (language cs) n A i j (best (language cs) n A i j)
  unfolding net network
  is_best_lem i j hi = best_is net i j hi

  pub only_best : (i j : ℕ) → i < n → (w : Weight) → Best (language cs) n A i j w → w ≡ best (language cs) n A i j
  unfolding net network
  only_best i j hi w b = best_unique net b (best_is net i j hi)

  -- an entry that is the best is read back from the words of its matrix
  pub entry_reads : (R : Matrix) (i j : ℕ) → i < n → j < n → R i j ≡ best (language cs) n A i j → matrix_on N (matrix_words n R) i j ≡ best (language cs) n A i j
  unfolding cell
  entry_reads R i j hi hj e =
      let same : words_at (matrix_words n R) (entry_place n i j) ≡ words_at (best_words N) (entry_place n i j) = matrix_four n R i j hi hj ∙ ap words e ∙ sym (matrix_four n (best (language cs) n A) i j hi hj) in
      ap (decoded (length cs)) same ∙ best_reads i j hi hj

  -- ---- the test

  -- The test holds exactly where every entry is the best weight over paths that visit no node twice, and none is malformed.
  pub test_exactly : (s : List ℕ) → (is_best N s ≡ true) ↔ EveryEntryBest N s
  test_exactly s = (there, back)
    where
      there : is_best N s ≡ true → EveryEntryBest N s
      there e =
          let q = (words_exactly s (best_words N)).0 e in
          record {
            formed = subst (Formed matrix_sum cs n) (sym q) best_formed;
            best = λ i j hi hj. subst (Best (language cs) n A i j) (sym (ap (λ (t : List ℕ). matrix_on N t i j) q ∙ best_reads i j hi hj)) (is_best_lem i j hi);
          }

      back : EveryEntryBest N s → is_best N s ≡ true
      back b =
          (words_exactly s (best_words N)).1 (sym (words_self matrix_sum cs n s (few N.language) b.formed)
          ∙ matrix_cong n (matrix_on N s) (best (language cs) n A) (λ i j hi hj. only_best i j hi (matrix_on N s i j) (b.best i j hi hj)))
