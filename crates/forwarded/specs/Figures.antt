-- The tables whose numbers source document 002 prints: figure 6, a cold table over widths and a hot table over distances. In 01's
-- words: a bandwidth of infinity is width's limit, an entry of infinity is empty, and nodes are numbered from 0.
-- To be believed: that these are 002's numbers. The theorems are in proofs/Figures.
use Rattle.std.specs.Prelude.{ℕ, zero, suc, ◌*◌, ◌-◌, List, [], ◌∷◌, ◌++◌, get_or}
use Rattle.weights.specs.declared.Component.{Component}
use Rattle.weights.specs.declared.Component.TheVariants.{Dist, Width}
use Rattle.weights.specs.declared.Language.{Language}
use Rattle.weights.specs.Weights.{Weight, none, route}
use Rattle.matrices.specs.Steps.{Matrix}
use Rattle.modes.specs.Entries.{Entry, empty, mapped}
use Rattle.histories.specs.Examples.{written}

-- ---- matrices and tables written out

-- the table with these rows
abbrev pub tabled : List (List Entry) → ℕ → ℕ → Entry
tabled rows i d = get_or (get_or rows i []) d empty

-- f 0, .., f (n - 1)
abbrev pub listed : {A : Type 0} → ℕ → (ℕ → A) → List A
listed zero f = []
listed (suc n) f = listed n f ++ f n ∷ []

-- the rows of n nodes and m columns
abbrev pub rows_of : {A : Type 0} → ℕ → ℕ → (ℕ → ℕ → A) → List (List A)
rows_of n m F = listed n (λ i. listed m (F i))

-- a weight of one value
abbrev pub of_value : ℕ → Weight
of_value x = route (x ∷ [])

-- an entry of one value and its t
abbrev pub value_with_t : ℕ → ℕ → Entry
value_with_t x t = mapped (x ∷ []) t

-- ---- figure 6(b), (c), (d): nodes 6 to 9, bandwidth, cold

-- bandwidth
abbrev pub band : List Component
band = Width 65535 ∷ []

-- a bandwidth of infinity
abbrev pub unlimited : ℕ
unlimited = 65535

-- figure 6(c)
abbrev pub band_routes : List (List Weight)
band_routes =
    (of_value unlimited ∷ of_value 20 ∷ of_value 30 ∷ of_value 20 ∷ [])
    ∷ (of_value 20 ∷ of_value unlimited ∷ of_value 20 ∷ of_value 40 ∷ [])
    ∷ (of_value 30 ∷ of_value 20 ∷ of_value unlimited ∷ of_value 20 ∷ [])
    ∷ (of_value 20 ∷ of_value 40 ∷ of_value 20 ∷ of_value unlimited ∷ [])
    ∷ []

-- arcs both ways between 6 and 7, 6 and 8, 7 and 9, 8 and 9, of which those are the best routes; 002 has its own in a drawing
abbrev pub band_arcs : Matrix
band_arcs = written ((none ∷ of_value 20 ∷ of_value 30 ∷ none ∷ []) ∷ (of_value 20 ∷ none ∷ none ∷ of_value 40 ∷ []) ∷ (of_value 30 ∷ none ∷ none ∷ of_value 20 ∷ []) ∷ (none ∷ of_value 40 ∷ of_value 20 ∷ none ∷ []) ∷ [])

-- figure 6(b): d1 at 8 with 2, and with 3 at x, y or z, the entries of 6, 7 and 9 for d1; d2 at 8 and 9 with 1
abbrev pub band_mapping : Entry → Entry → Entry → List (List Entry)
band_mapping x y z = (x ∷ empty ∷ []) ∷ (y ∷ empty ∷ []) ∷ (value_with_t unlimited 2 ∷ value_with_t unlimited 1 ∷ []) ∷ (z ∷ value_with_t unlimited 1 ∷ []) ∷ []

-- figure 6(d)
abbrev pub band_table : List (List Entry)
band_table = (value_with_t 30 2 ∷ value_with_t 30 1 ∷ []) ∷ (value_with_t 20 2 ∷ value_with_t 40 1 ∷ []) ∷ (value_with_t unlimited 2 ∷ value_with_t unlimited 1 ∷ []) ∷ (value_with_t 20 2 ∷ value_with_t unlimited 1 ∷ []) ∷ []

-- ---- figure 6(f), (g), (h): nodes 1 to 5, distance, hot

-- 002's outside values are here pairs of a bandwidth and a metric, the smaller metric first and then the larger bandwidth. A number
-- that keeps that order, for bandwidths below 100 and metrics from 1:
abbrev pub pair : ℕ → ℕ → ℕ
pair bandwidth metric = 100 * metric - bandwidth

-- figure 6(g), in which x, between 1 and 3, and y, between 4 and 5, cannot be read
abbrev pub distance_routes : ℕ → ℕ → List (List Weight)
distance_routes x y =
    (of_value 0 ∷ of_value 3 ∷ of_value x ∷ of_value 5 ∷ of_value 5 ∷ [])
    ∷ (of_value 3 ∷ of_value 0 ∷ of_value 2 ∷ of_value 2 ∷ of_value 3 ∷ [])
    ∷ (of_value x ∷ of_value 2 ∷ of_value 0 ∷ of_value 4 ∷ of_value 4 ∷ [])
    ∷ (of_value 5 ∷ of_value 2 ∷ of_value 4 ∷ of_value 0 ∷ of_value y ∷ [])
    ∷ (of_value 5 ∷ of_value 3 ∷ of_value 4 ∷ of_value y ∷ of_value 0 ∷ [])
    ∷ []

-- arcs both ways between 1 and 2, 1 and 5, 2 and 3, 2 and 4, 2 and 5, 3 and 5, of which those are the best routes with x and y 5
abbrev pub distance_arcs : Matrix
distance_arcs =
    written
    ((none ∷ of_value 3 ∷ none ∷ none ∷ of_value 5 ∷ [])
    ∷ (of_value 3 ∷ none ∷ of_value 2 ∷ of_value 2 ∷ of_value 3 ∷ [])
    ∷ (none ∷ of_value 2 ∷ none ∷ none ∷ of_value 4 ∷ [])
    ∷ (none ∷ of_value 2 ∷ none ∷ none ∷ none ∷ [])
    ∷ (of_value 5 ∷ of_value 3 ∷ of_value 4 ∷ none ∷ none ∷ [])
    ∷ [])

-- figure 6(f)
abbrev pub distance_mapping : List (List Entry)
distance_mapping =
    (empty ∷ empty ∷ [])
    ∷ (empty ∷ empty ∷ [])
    ∷ (empty ∷ empty ∷ [])
    ∷ (value_with_t 0 (pair 30 2) ∷ value_with_t 0 (pair 30 1) ∷ [])
    ∷ (value_with_t 0 (pair 20 2) ∷ value_with_t 0 (pair 40 1) ∷ [])
    ∷ []

-- figure 6(h); its last number cannot be read, and is what 5 itself is attached with
abbrev pub distance_table : List (List Entry)
distance_table =
    (value_with_t 5 (pair 30 2) ∷ value_with_t 5 (pair 40 1) ∷ [])
    ∷ (value_with_t 2 (pair 30 2) ∷ value_with_t 2 (pair 30 1) ∷ [])
    ∷ (value_with_t 4 (pair 30 2) ∷ value_with_t 4 (pair 40 1) ∷ [])
    ∷ (value_with_t 0 (pair 30 2) ∷ value_with_t 0 (pair 30 1) ∷ [])
    ∷ (value_with_t 0 (pair 20 2) ∷ value_with_t 0 (pair 40 1) ∷ [])
    ∷ []

-- the language of the cold table: bandwidth alone
abbrev pub band_language : Language
band_language = record { count = 1; first = Width 65535; second = Dist; third = Dist; fourth = Dist }
