-- P8 at a handover: the two depots' matrix satisfies the equation, is not lent whatever stands, and no sweep repairs it.
use Prim.Native.Nat.{ℕ, ◌<◌}
use mathlib.Core.Path.{◌≡◌, refl, ap, ap₂}
use mathlib.Core.Bool.{false}
use mathlib.Core.List.{List}
use native.Mathlib.Omega.{arith}
use lib.ListN.{length, get_or}
use Rattle.refusals.specs.Told.{done}
use Rattle.algebra.specs.Order.{pick, best_of}
use Rattle.algebra.specs.Best.{best, best_among}
use Rattle.algebra.specs.Step.{routed}
use Rattle.weights.specs.Words.{words}
use Rattle.matrices.specs.Buffers.{blocks, cell, first_malformed}
use Rattle.matrices.specs.Steps.{every}
use Rattle.matrices.proofs.Entries.{length_matrix}
use Rattle.matrices.proofs.Every.{solves_exactly}
use Rattle.routes.specs.Calls.{steps_left}
use Rattle.histories.specs.Examples.{depots, depot_routes, depot_route_words, depot_fresh_words}
use Rattle.handover.specs.Calls.{handover_check, is_best, lender_row, row_part, lent_row}
use Rattle.handover.proofs.Answers.{lender_row_by}
use Rattle.handovers.specs.Handovers.{RowsOnly, NotEnough}
use Rattle.handovers.proofs.Recipe.{sweeping_never_repairs}
use Rattle.handovers.proofs.Lent.{handover_passes, standing_row_lent, handover_lawful}
use Rattle.guards.specs.OnNetwork.{components, matrix_on, arcs_on}
use Rattle.std.specs.Prelude.{Ok}

-- Satisfying the equation is not enough: the standing row is lent, and it is another.
pub depots_not_enough : NotEnough depots depot_fresh_words depot_route_words 0
unfolding blocks words cell first_malformed every routed best_of pick best best_among
depots_not_enough = record {
  passes = refl;
  satisfies = (solves_exactly (components depots) 3 (arcs_on depots) (matrix_on depots depot_route_words)).0 refl;
  lends = refl;
  another = λ e. let z : ◌≡◌ {A = ℕ} 10 4294967295 = ap (λ (s : List ℕ). get_or s 4 0) e in omega arith;
}

-- The depots' matrix fails the test of a handover ..
depots_not_best : is_best depots depot_route_words ≡ false
unfolding blocks words cell best best_among pick
depots_not_best = refl

-- .. and the checks pass, for every standing matrix of the right length and every node.
depots_pass : (standing : List ℕ) (i : ℕ) → length standing ≡ 36 → i < 3 → handover_check depots standing depot_route_words i ≡ Ok tt
depots_pass standing i e h =
    handover_passes depots standing depot_route_words i (handover_lawful depots depot_fresh_words depot_route_words 0 (omega arith, tt) depots_not_enough.passes) (length_matrix 3 depot_routes) e h

-- So the standing matrix lends, whatever it holds ..
pub depots_lender_standing : (standing : List ℕ) (i : ℕ) → length standing ≡ 36 → i < 3 → lender_row depots standing depot_route_words i ≡ record { told = done; buffer = 5 }
depots_lender_standing standing i e h = ap₂ lender_row_by (depots_pass standing i e h) depots_not_best

pub depots_lend_standing : (standing : List ℕ) (i : ℕ) → length standing ≡ 36 → i < 3 → lent_row depots standing depot_route_words i ≡ row_part 3 i standing
depots_lend_standing standing i e h = standing_row_lent depots standing depot_route_words i (depots_pass standing i e h) depots_not_best

-- .. even where it is that very matrix.
pub depots_lender_same : (i : ℕ) → i < 3 → lender_row depots depot_route_words depot_route_words i ≡ record { told = done; buffer = 5 }
depots_lender_same i h = depots_lender_standing depot_route_words i (length_matrix 3 depot_routes) h

-- Sweeping the depots' matrix never repairs it, however long the list.
pub depots_never_repaired : (list : List ℕ) → RowsOnly 3 list → steps_left depots depot_route_words list ≡ depot_route_words
depots_never_repaired list rows = sweeping_never_repairs depots depot_route_words list depots_not_enough.satisfies rows
