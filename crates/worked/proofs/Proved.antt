-- P1 to P9 hold, together.
use Prim.Native.Nat.{ℕ, zero, suc, ◌<◌}
use mathlib.Core.Path.{◌≡◌, refl, subst}
use mathlib.Core.Bool.{true}
use mathlib.Core.List.{List, [], ◌∷◌}
use native.Mathlib.Omega.{arith}
use lib.Dec.{lit≤}
use Rattle.refusals.specs.declared.Refusal.TheVariants.{NoSuch}
use Rattle.refusals.specs.Told.{told, done}
use Rattle.algebra.specs.Network.{Network}
use Rattle.algebra.specs.Order.{pick, best_of}
use Rattle.algebra.specs.Path.{ValidMatrix}
use Rattle.algebra.specs.Best.{Best, best, best_among}
use Rattle.algebra.specs.Step.{fresh, routed, reached, sweeps}
use Rattle.algebra.specs.Modes.{forwarded}
use Rattle.algebra.proofs.Bests.{best_is}
use Rattle.weights.specs.declared.Component.{Component}
use Rattle.weights.specs.declared.Component.TheVariants.{Width}
use Rattle.weights.specs.Weights.{none, route, language}
use Rattle.weights.specs.Words.{words}
use Rattle.weights.proofs.Languages.{lawful}
use Rattle.weights.proofs.Worked as weights
use Rattle.matrices.specs.Buffers.{blocks, cell, first_malformed}
use Rattle.matrices.specs.Steps.{Matrix, every, solves}
use Rattle.matrices.proofs.Every.{solves_exactly}
use Rattle.modes.specs.declared.Mode.TheVariants.{Hot}
use Rattle.modes.specs.Entries.{mapped, mode_of}
use Rattle.tables.specs.Tables.{table_in}
use Rattle.file_bytes.specs.Bytes.{two_at}
use Rattle.fields.specs.Nested.{added, component_read, language_from}
use Rattle.fields.specs.Header.{field_check, fields_check, head_read, sound_head}
use Rattle.records.specs.Records.{record_length, ends_check, values_check, record_check, records_check, record_list_check, list_end, body_check}
use Rattle.files.specs.File.{file_read}
use Rattle.contents.specs.Contents.{outside_at, listed_words, listed_table}
use Rattle.files.specs.PrintedFile.{printed_file, printed_head}
use Rattle.histories.specs.History.{HistoryBegun, after_calls}
use Rattle.histories.specs.Examples.{written, distance, distance_language, depot_arcs, depot_routes}
use Rattle.histories.proofs.Worked.{P9}
use Rattle.worked.specs.Together.{arcs_read, mapping_read, Same, printed_matrix, sixteen, one_step, ProvedTogether}

-- ---- matrices of three rows and columns

below_three : (P : ℕ → Type 0) → P 0 → P 1 → P 2 → (i : ℕ) → i < 3 → P i
below_three P a b c zero h = a
below_three P a b c (suc zero) h = b
below_three P a b c (suc (suc zero)) h = c
below_three P a b c (suc (suc (suc i))) h = absurd (omega arith)

-- what holds of the nine pairs
nine : (P : ℕ → ℕ → Type 0) → P 0 0 → P 0 1 → P 0 2 → P 1 0 → P 1 1 → P 1 2 → P 2 0 → P 2 1 → P 2 2 → (i j : ℕ) → i < 3 → j < 3 → P i j
nine P a b c d e f g h k i j hi hj =
    below_three (λ i. P i j) (below_three (P 0) a b c j hj) (below_three (P 1) d e f j hj) (below_three (P 2) g h k j hj) i hi

-- ---- P5

abbrev arcs : Matrix
arcs = arcs_read (printed_file 3) 9 (printed_head 3)

arcs_valid : ValidMatrix (language distance) 3 arcs
unfolding listed_table blocks listed_words outside_at words two_at record_length cell
arcs_valid = nine (λ i j. (language distance).Valid (arcs i j)) tt (tt, tt) (tt, tt) tt tt (tt, tt) tt tt tt

printed : Network
printed = record { 𝓐 = language distance; 𝓛 = lawful distance (tt, tt) refl refl; n = 3; A = arcs; arcs_valid = arcs_valid }

reads : (file_read (printed_file 3) ≡ sound_head 9 (printed_head 3)) × (file_read (printed_file 2) ≡ sound_head 9 (printed_head 2))
unfolding file_read head_read fields_check field_check language_from component_read added two_at body_check record_list_check list_end records_check record_check record_length ends_check values_check
reads = (refl, refl)

swept : Same 3 (reached (language distance) 3 arcs (sweeps 3 2)) printed_matrix
unfolding listed_table blocks listed_words outside_at words two_at record_length cell routed best_of pick
swept = nine (λ i j. reached (language distance) 3 arcs (sweeps 3 2) i j ≡ printed_matrix i j) refl refl refl refl refl refl refl refl refl

computed : Same 3 (best (language distance) 3 arcs) printed_matrix
unfolding listed_table blocks listed_words outside_at words two_at record_length cell best best_among pick
computed = nine (λ i j. best (language distance) 3 arcs i j ≡ printed_matrix i j) refl refl refl refl refl refl refl refl refl

-- ---- P6

hot : forwarded (language distance) (mode_of Hot distance) 3 (reached (language distance) 3 (arcs_read (printed_file 2) 9 (printed_head 2)) (sweeps 3 2)) (mapping_read (printed_file 2) 9 (printed_head 2)) 0 0 ≡ mapped (2 ∷ []) 7
unfolding listed_table blocks listed_words outside_at words two_at record_length list_end cell routed table_in forwarded best_of pick
hot = refl

-- ---- P7

abbrev alone : Matrix
alone = written ((route (5 ∷ []) ∷ []) ∷ [])

alone_valid : ValidMatrix (language distance) 1 alone
alone_valid zero zero hi hj = (tt, tt)
alone_valid zero (suc j) hi hj = absurd (omega arith)
alone_valid (suc i) j hi hj = absurd (omega arith)

one : Network
one = record { 𝓐 = language distance; 𝓛 = lawful distance (tt, tt) refl refl; n = 1; A = alone; arcs_valid = alone_valid }

fresh_is_best : best (language distance) 1 alone 0 0 ≡ fresh (language distance) 0 0
unfolding best best_among pick
fresh_is_best = refl

-- ---- P8

abbrev wide : List Component
wide = Width 10 ∷ []

depots_valid : ValidMatrix (language wide) 3 depot_arcs
depots_valid = nine (λ i j. (language wide).Valid (depot_arcs i j)) tt ((lit≤ tt, lit≤ tt), tt) tt ((lit≤ tt, lit≤ tt), tt) tt tt tt tt tt

depot_network : Network
depot_network = record { 𝓐 = language wide; 𝓛 = lawful wide (lit≤ tt, tt) refl refl; n = 3; A = depot_arcs; arcs_valid = depots_valid }

balances : solves wide 3 depot_arcs depot_routes ≡ true
unfolding every routed best_of pick
balances = refl

no_way : best (language wide) 3 depot_arcs 0 2 ≡ none
unfolding best best_among pick
no_way = refl

-- ---- P9

begun : HistoryBegun sixteen sixteen.arcs
unfolding first_malformed
begun = record { fresh_done = refl; arcs_long = refl; arcs_formed = refl; limits = (tt, tt) }

steps : (one_step 15 ≡ record { told = done; done = 1 }) × (one_step 16 ≡ record { told = told (NoSuch 0 0); done = 0 })
unfolding after_calls
steps = P9 distance_language sixteen.arcs sixteen.arcs begun

-- ---- together

pub proved_together : ProvedTogether
unfolding printed one depot_network
proved_together = record {
  P1 = ((weights.P1).0, (weights.P1).1, λ c. let b = (weights.P1).2 in b.5 (c (route (0 ∷ 1 ∷ [])) (route (0 ∷ 9 ∷ [])) (route (0 ∷ 1 ∷ [])) b.0 b.1 b.2 b.3 b.4));
  P2 = weights.P2;
  P3 = weights.P3;
  P4 = weights.P4;
  P5 = (reads.0, swept, λ i j hi hj. subst (Best (language distance) 3 arcs i j) (computed i j hi hj) (best_is printed i j hi));
  P6 = (reads.1, refl, hot);
  P7 = subst (Best (language distance) 1 alone 0 0) fresh_is_best (best_is one 0 0 (omega arith));
  P8 = ((solves_exactly wide 3 depot_arcs depot_routes).0 balances, subst (Best (language wide) 3 depot_arcs 0 2) no_way (best_is depot_network 0 2 (omega arith)));
  P9 = steps;
}
