-- The call tells each refusal exactly where it is due, and a hop exactly where it is the next hop.
use Prim.Native.Nat.{ℕ}
use mathlib.Core.Path.{◌≡◌, refl, ap, ◌∙◌}
use mathlib.Core.List.{List, [], ◌∷◌}
use mathlib.Core.Logic.{◌↔◌}
use Rattle.std.specs.Prelude.{Option, Some, Ok, Err}
use native.Mathlib.Omega.{arith}
use Rattle.hops.specs.NextHop.{hop_of, NextHop}
use Rattle.hops.specs.Calls.{hop_check, hop_row, hop_cases}
use Rattle.hops.proofs.Answers.{hop_row_by}
use Rattle.hops.proofs.Rule.{hop_exactly}
use Rattle.refusals.specs.Cases.{ToldExactly, refusal_numbers}
use Rattle.routes.proofs.Cases.{matrices_exact}
use Rattle.guards.proofs.Cases.{node_exact}
use Rattle.refusals.proofs.Cases.{told_exactly, no_more, ◌and◌}
use Rattle.guards.specs.OnNetwork.{OnNetwork, components, matrix_on, arcs_on}
use Rattle.refusals.specs.Checks.{Check}

module _ (N : OnNetwork) (r : List ℕ) (i j : ℕ) where
  open N use {n, arcs}

  abbrev rule : Option ℕ
  rule = hop_of (components N) n (arcs_on N) (matrix_on N r) i j

  -- 01's order
  pub hop_numbers : refusal_numbers (hop_cases N r i j) ≡ 3 ∷ 5 ∷ 4 ∷ 9 ∷ 9 ∷ 10 ∷ 10 ∷ 6 ∷ 6 ∷ 7 ∷ 7 ∷ []
  hop_numbers = refl

  -- each refusal exactly where it is due, and done exactly where none is
  pub hop_told : ToldExactly (hop_cases N r i j) (hop_row N r i j).told
  hop_told = told_exactly (hop_cases N r i j) (matrices_exact N r (node_exact 0 n i and node_exact 1 n j and no_more)) (hop_row N r i j).told refl

  -- it gives node k exactly when its checks pass and k is the next hop
  pub hop_given : (k : ℕ) → ((hop_row N r i j).node ≡ Some k) ↔ ((hop_check N r i j ≡ Ok tt) × NextHop (components N) n (arcs_on N) (matrix_on N r) i j k)
  hop_given k = (λ e. there (hop_check N r i j) refl e, λ h. ap (λ (c : Check). (hop_row_by c rule).node) h.0 ∙ (hop_exactly (components N) n (arcs_on N) (matrix_on N r) i j k).1 h.1)
    where
      there : (c : Check) → hop_check N r i j ≡ c → (hop_row_by c rule).node ≡ Some k → (hop_check N r i j ≡ Ok tt) × NextHop (components N) n (arcs_on N) (matrix_on N r) i j k
      there (Ok _) p e = (p, (hop_exactly (components N) n (arcs_on N) (matrix_on N r) i j k).0 e)
      there (Err x) p e = absurd (let z : ◌≡◌ {A = ℕ} 0 1 = cc in omega arith)
