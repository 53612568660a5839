-- 01's "Proved together": P1 to P9, about the definitions alone.
-- To be believed: all of it, beside 01's own lines. That it holds is the theorem `proved_together` (proofs/Proved).
use Rattle.std.specs.Prelude.{ℕ, ◌+◌, ◌*◌, ◌<◌, ◌≡◌, List, [], ◌∷◌, length, replicate, Some}
use Rattle.refusals.specs.declared.Refusal.TheVariants.{NoSuch}
use Rattle.refusals.specs.Told.{told, done}
use Rattle.algebra.specs.Best.{Best}
use Rattle.algebra.specs.Step.{Solves, fresh, reached, sweeps}
use Rattle.algebra.specs.Modes.{forwarded}
use Rattle.weights.specs.declared.Component.TheVariants.{Dist, Width, Gain}
use Rattle.weights.specs.Sizes.{weight_words, ones}
use Rattle.weights.specs.Weights.{none, route, language}
use Rattle.weights.specs.Laws.{LawD, LawU, LawC, BreaksD, BreaksU}
use Rattle.weights.specs.Languages.{components_of}
use Rattle.matrices.specs.Steps.{Matrix}
use Rattle.modes.specs.declared.Mode.TheVariants.{Hot}
use Rattle.modes.specs.Entries.{Entry, mapped, mode_of, mode_for}
use Rattle.tables.specs.Tables.{table_in}
use Rattle.routes.specs.Calls.{fresh_left, steps_row, StepsRow}
use Rattle.histories.specs.Examples.{written, distance, distance_language, depot_arcs, depot_routes}
use Rattle.fields.specs.declared.Head.{Head}
use Rattle.records.specs.declared.Listing.TheVariants.{Arcs, Attachments}
use Rattle.file_bytes.specs.Bytes.{two_at}
use Rattle.records.specs.Records.{list_end}
use Rattle.files.specs.File.{file_read}
use Rattle.contents.specs.Contents.{listed_table}
use Rattle.files.specs.PrintedFile.{printed_file, printed_head}
use Rattle.matrices.specs.Buffers.{matrix_in}
use Rattle.guards.specs.OnNetwork.{OnNetwork, on_network}
use Rattle.fields.specs.Header.{sound_head}

-- ---- what a file lists

-- the arcs that a file lists, where its header ends at next
abbrev pub arcs_read : List ℕ → ℕ → Head → Matrix
arcs_read s next h = matrix_in (length (components_of h.language)) h.n (listed_table s h Arcs (next + 2) (two_at s next))

-- the mapping that it lists
abbrev pub mapping_read : List ℕ → ℕ → Head → ℕ → ℕ → Entry
mapping_read s next h =
    table_in (length (components_of h.language)) h.m (listed_table s h Attachments (list_end s h Arcs next + 2) (two_at s (list_end s h Arcs next)))

-- ---- matrices written out

-- two matrices have the same n x n entries
abbrev pub Same : ℕ → Matrix → Matrix → Type 0
Same n R S = (i j : ℕ) → i < n → j < n → R i j ≡ S i j

-- R 0 0 0, R 0 1 2, R 0 2 5, R 1 0 -, .., R 2 2 0
abbrev pub printed_matrix : Matrix
printed_matrix =
    written
    ((route (0 ∷ []) ∷ route (2 ∷ []) ∷ route (5 ∷ []) ∷ [])
    ∷ (none ∷ route (0 ∷ []) ∷ route (3 ∷ []) ∷ [])
    ∷ (none ∷ none ∷ route (0 ∷ []) ∷ []) ∷ [])

-- ---- sixteen nodes without an arc, dist alone

-- no arcs between sixteen nodes
abbrev pub sixteen : OnNetwork
sixteen = on_network distance_language 16 (replicate (16 * (16 * weight_words)) ones)

-- a step call with one step, on the fresh matrix
abbrev pub one_step : ℕ → StepsRow
one_step x = steps_row sixteen (fresh_left distance_language 16 sixteen.arcs) (x ∷ [])

-- ---- the list

-- 01's list, line by line
pub record ProvedTogether : Type 0 where
  -- (P1) dist, width 9: laws D, U held, C broken
  pub P1 : LawD (Dist ∷ Width 9 ∷ []) × LawU (Dist ∷ Width 9 ∷ []) × (LawC (Dist ∷ Width 9 ∷ []) → ⊥)
  -- (P2) width 9, dist: D broken by s (1,0), x (9,1), y (1,0)
  pub P2 : BreaksD (Width 9 ∷ Dist ∷ []) (route (1 ∷ 0 ∷ [])) (route (9 ∷ 1 ∷ [])) (route (1 ∷ 0 ∷ []))
  -- (P3) width 1, dist: all held
  pub P3 : LawD (Width 1 ∷ Dist ∷ []) × LawU (Width 1 ∷ Dist ∷ []) × LawC (Width 1 ∷ Dist ∷ [])
  -- (P4) gain: D, C held, U broken by 1
  pub P4 : LawD (Gain ∷ []) × LawC (Gain ∷ []) × BreaksU (Gain ∷ []) (route (1 ∷ []))
  -- (P5) the printed matrix: from 01's bytes, two sweeps from fresh give it, and it is the best
  pub P5 :
      (file_read (printed_file 3) ≡ sound_head 9 (printed_head 3))
      × Same 3 (reached (language distance) 3 (arcs_read (printed_file 3) 9 (printed_head 3)) (sweeps 3 2)) printed_matrix
      × ((i j : ℕ) → i < 3 → j < 3 → Best (language distance) 3 (arcs_read (printed_file 3) 9 (printed_head 3)) i j (printed_matrix i j))
  -- (P6) the same file in hot mode, from its own bytes: F(0,0) is 2 with t 7
  pub P6 :
      (file_read (printed_file 2) ≡ sound_head 9 (printed_head 2))
      × (mode_for distance 1 2 ≡ Some Hot)
      × (forwarded (language distance) (mode_of Hot distance) 3
      (reached (language distance) 3 (arcs_read (printed_file 2) 9 (printed_head 2)) (sweeps 3 2))
      (mapping_read (printed_file 2) 9 (printed_head 2)) 0 0
      ≡ mapped (2 ∷ []) 7)
  -- (P7) n = 1 with self-arc 5: fresh is best
  pub P7 : Best (language distance) 1 (written ((route (5 ∷ []) ∷ []) ∷ [])) 0 0 (fresh (language distance) 0 0)
  -- (P8) width 10, the two depots: the matrix satisfies the equation, yet the best from 0 to 2 is no route
  pub P8 : Solves (language (Width 10 ∷ [])) 3 depot_arcs depot_routes × Best (language (Width 10 ∷ [])) 3 depot_arcs 0 2 none
  -- (P9) step 15 with n = 16 runs, step 16 is refused
  pub P9 : (one_step 15 ≡ record { told = done; done = 1 }) × (one_step 16 ≡ record { told = told (NoSuch 0 0); done = 0 })
