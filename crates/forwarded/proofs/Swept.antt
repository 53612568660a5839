-- Forwarding after steps: where the steps of a history contain n - 1 stretches, a forwarding call is never refused 12.
use Prim.Native.Nat.{ℕ, suc, ◌≤◌}
use mathlib.Core.Path.{◌≡◌}
use mathlib.Core.List.{List, map}
use Rattle.refusals.specs.Cases.{NoneDue, first_cases}
use Rattle.algebra.specs.Step.{Stretches}
use Rattle.guards.specs.OnNetwork.{OnNetwork}
use Rattle.routes.specs.Calls.{step_of}
use Rattle.histories.specs.History.{HistoryBegun, held, ran}
use Rattle.histories.proofs.Histories.{history_demand_3}
use Rattle.forwarding.specs.Calls.{OnTables, on_tables, forward_cases, forward_check}
use Rattle.forwarded.specs.Table.{EveryRouteBest}
use Rattle.forwarded.proofs.Exact.{best_done}
use Rattle.std.specs.Prelude.{Ok}

module _ (N : OnNetwork) (r : List ℕ) (begun : HistoryBegun N r) (lists : List (List ℕ)) (k : ℕ) (enough : N.n ≤ suc k) (swept : Stretches N.n k (map step_of (ran N r lists))) where
  -- the buffer of the history holds the best weights ..
  pub swept_holds_best : EveryRouteBest N (held N r lists)
  swept_holds_best i j hi hj = (history_demand_3 N r begun lists).swept k enough swept j hj i hi

  -- a forwarding call on it
  abbrev on_held : ℕ → ℕ → List ℕ → OnTables
  on_held m mode mapping = on_tables N m mode (held N r lists) mapping

  -- .. so a forwarding call on it is done where nothing is due in the fifteen cases before 12
  pub swept_forwards : (m mode : ℕ) (mapping f : List ℕ) → NoneDue (first_cases 15 (forward_cases (on_held m mode mapping) f)) → forward_check (on_held m mode mapping) f ≡ Ok tt
  swept_forwards m mode mapping f = best_done (on_held m mode mapping) f swept_holds_best
