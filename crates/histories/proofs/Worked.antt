-- P9 of 01 in general: after any fresh call on sixteen nodes, with any arcs that pass.
use Prim.Native.Nat.{ℕ}
use mathlib.Core.Path.{◌≡◌}
use mathlib.Core.List.{List, [], ◌∷◌}
use Rattle.refusals.specs.declared.Refusal.TheVariants.{NoSuch}
use Rattle.refusals.specs.Told.{told, done}
use Rattle.weights.specs.declared.Language.{Language}
use Rattle.routes.specs.Calls.{steps_row}
use Rattle.histories.specs.History.{HistoryBegun, held}
use Rattle.histories.proofs.Histories.{history_demand_3}
use Rattle.routes.proofs.Answers.{row_by_lem}
use Rattle.guards.specs.OnNetwork.{on_network}

-- step 15 with n = 16 runs, step 16 is refused
pub P9 : (l : Language) (a r : List ℕ) → HistoryBegun (on_network l 16 a) r
    → (steps_row (on_network l 16 a) (held (on_network l 16 a) r []) (15 ∷ []) ≡ record { told = done; done = 1 }) × (steps_row (on_network l 16 a) (held (on_network l 16 a) r []) (16 ∷ []) ≡ record { told = told (NoSuch 0 0); done = 0 })
P9 l a r b =
    let h = history_demand_3 (on_network l 16 a) r b [] in (
      h.whole (15 ∷ []) (h.refuses (15 ∷ [])),
      row_by_lem (on_network l 16 a) (held (on_network l 16 a) r []) (16 ∷ []) (h.refuses (16 ∷ [])),
    )
