-- What the print program has worked out of a problem (01, "The printed case"): sweeps of all rows from fresh, then the forwarding
-- table, through the calls.
-- To be believed: all of it.
use Rattle.std.specs.Prelude.{ℕ, ◌-◌, ◌*◌, List, [], ◌∷◌, replicate}
use Rattle.refusals.specs.declared.Told.{Told}
use Rattle.refusals.specs.Checks.{answer_told, if_passed}
use Rattle.weights.specs.Sizes.{weight_words, entry_words}
use Rattle.matrices.specs.Buffers.{blocks}
use Rattle.routes.specs.Calls.{fresh_check, fresh_left, steps_row, steps_left}
use Rattle.forwarding.specs.Calls.{OnTables, forward_check, forward_left}
use Rattle.guards.specs.OnNetwork.{OnNetwork}

-- rows 0..n-1 in order
abbrev pub sweep_list : ℕ → List ℕ
sweep_list n = blocks n (λ i. i ∷ [])

-- n-1 times
abbrev pub sweeps_list : ℕ → List ℕ
sweeps_list n = blocks (n - 1) (λ _. sweep_list n)

-- The fresh call on a buffer r, then the step call with the sweeps: what is told, which is fresh's refusal where that is refused ..
unfoldable pub routes_told : OnNetwork → List ℕ → Told
routes_told N r = if_passed (fresh_check N.language N.n r) (steps_row N (fresh_left N.language N.n r) (sweeps_list N.n)).told (answer_told (fresh_check N.language N.n r))

-- .. and what r holds after both calls
unfoldable pub routes_left : OnNetwork → List ℕ → List ℕ
routes_left N r = if_passed (fresh_check N.language N.n r) (steps_left N (fresh_left N.language N.n r) (sweeps_list N.n)) r

-- a buffer for an n x n matrix
abbrev pub blank : ℕ → List ℕ
blank n = replicate (n * (n * weight_words)) 0

-- The forwarding call on a buffer f: what is told, and what f holds then.
unfoldable pub table_told : OnTables → List ℕ → Told
table_told T f = answer_told (forward_check T f)

-- what f holds after the forwarding call
unfoldable pub table_left : OnTables → List ℕ → List ℕ
table_left T f = forward_left T f

-- a buffer for a table of n nodes and m destinations
abbrev pub blank_table : ℕ → ℕ → List ℕ
blank_table n m = replicate (n * (m * entry_words)) 0
