-- Each case of guards/specs/Checks is exact: its check refuses exactly where it says. Those of the laws where the limits are sound.
use Prim.Native.Nat.{ℕ, ◌+◌, ◌-◌, ◌*◌, ◌≤◌, ◌<◌}
use mathlib.Core.Path.{◌≡◌}
use mathlib.Core.Bool.{Bool, true}
use mathlib.Core.List.{List}
use mathlib.Core.Logic.{◌↔◌}
use native.Mathlib.Omega.{arith}
use lib.ListN.{length}
use Rattle.refusals.specs.declared.Refusal.TheVariants.{Size, NoSuch, Length, Law, TooMany}
use Rattle.refusals.proofs.Tests.{both_exactly, either_exactly, leb_exactly, ltb_exactly, eqb_exactly}
use Rattle.refusals.proofs.Cases.{Exact, unless_exact, first_exact}
use Rattle.weights.specs.declared.Component.{Component}
use Rattle.weights.specs.Sizes.{weight_words, arc_sum, matrix_sum}
use Rattle.weights.specs.Weights.{Sound}
use Rattle.weights.proofs.Decided.{d_exact, u_exact}
use Rattle.matrices.proofs.Malformed.{entries_exact}
use Rattle.guards.specs.Checks.{most_nodes, most_steps, first_settle, is_step, IsStep, nodes_case, length_case, law_d_case, law_u_case, arcs_case, routes_case, many_case, list_case, node_case}

pub nodes_exact : (n : ℕ) → Exact (nodes_case n)
nodes_exact n = unless_exact (Size 1) 0 (both_exactly (leb_exactly 1 n) (leb_exactly n most_nodes))

pub length_exact : (which n : ℕ) (s : List ℕ) → Exact (length_case which n s)
length_exact which n s = unless_exact (Length which) 0 (eqb_exactly (length s) (n * (n * weight_words)))

pub law_d_exact : (cs : List Component) → Sound cs → Exact (law_d_case cs)
law_d_exact cs s = unless_exact (Law 1) 0 (d_exact cs s)

pub law_u_exact : (cs : List Component) → Sound cs → Exact (law_u_case cs)
law_u_exact cs s = unless_exact (Law 2) 0 (u_exact cs s)

pub arcs_exact : (cs : List Component) (n : ℕ) (a : List ℕ) → Exact (arcs_case cs n a)
arcs_exact cs n a = entries_exact 1 arc_sum cs n a

pub routes_exact : (cs : List Component) (n : ℕ) (r : List ℕ) → Exact (routes_case cs n r)
routes_exact cs n r = entries_exact 2 matrix_sum cs n r

pub many_exact : (list : List ℕ) → Exact (many_case list)
many_exact list = unless_exact (TooMany 0) 0 (leb_exactly (length list) most_steps)

pub node_exact : (place n i : ℕ) → Exact (node_case place n i)
node_exact place n i = unless_exact (NoSuch 0) place (ltb_exactly i n)

step_exactly : (n x : ℕ) → (is_step n x ≡ true) ↔ IsStep n x
step_exactly n x = either_exactly (ltb_exactly x n) (settle_exactly (both_exactly (leb_exactly first_settle x) (ltb_exactly (x - first_settle) n)))
  where
    settle_exactly : {b : Bool} → (b ≡ true) ↔ ((first_settle ≤ x) × (x - first_settle < n)) → (b ≡ true) ↔ ((first_settle ≤ x) × (x < first_settle + n))
    settle_exactly e = (λ q. let h = e.0 q in (h.0, omega (arith, h.0, h.1)), λ (h, k). e.1 (h, omega arith))

pub list_exact : (n : ℕ) (list : List ℕ) → Exact (list_case n list)
list_exact n list = first_exact (is_step n) (IsStep n) (step_exactly n) (NoSuch 0) list
