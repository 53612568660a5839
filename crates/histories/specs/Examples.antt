-- Matrices written out by rows; the language of dist alone; and the two depots of P8: their language, arcs and matrix, and the words
-- of these in buffers.
-- To be believed: all of it, beside 01's own line.
use Rattle.std.specs.Prelude.{ℕ, List, [], ◌∷◌, get_or}
use Rattle.algebra.specs.Step.{fresh}
use Rattle.weights.specs.declared.Component.{Component}
use Rattle.weights.specs.declared.Component.TheVariants.{Dist, Width}
use Rattle.weights.specs.declared.Language.{Language}
use Rattle.weights.specs.Weights.{Weight, none, route, language}
use Rattle.weights.specs.Languages.{components_of}
use Rattle.matrices.specs.Buffers.{matrix_words}
use Rattle.matrices.specs.Steps.{Matrix}
use Rattle.guards.specs.OnNetwork.{OnNetwork, on_network}

-- the matrix with these rows
abbrev pub written : List (List Weight) → Matrix
written rows i j = get_or (get_or rows i []) j none

-- dist alone
abbrev pub distance : List Component
distance = Dist ∷ []

-- the same, as a call is given it
abbrev pub distance_language : Language
distance_language = record { count = 1; first = Dist; second = Dist; third = Dist; fourth = Dist }

-- a width of 10
abbrev pub ten : Weight
ten = route (10 ∷ [])

-- arcs 0 to 1 and 1 to 0 of 10
abbrev pub depot_arcs : Matrix
depot_arcs = written ((none ∷ ten ∷ none ∷ []) ∷ (ten ∷ none ∷ none ∷ []) ∷ (none ∷ none ∷ none ∷ []) ∷ [])

-- R(0,2) = R(1,2) = 10, no route from 2 to 0 or 1, and 10 elsewhere
abbrev pub depot_routes : Matrix
depot_routes = written ((ten ∷ ten ∷ ten ∷ []) ∷ (ten ∷ ten ∷ ten ∷ []) ∷ (none ∷ none ∷ ten ∷ []) ∷ [])

-- width 10
abbrev pub depot_language : Language
depot_language = record { count = 1; first = Width 10; second = Dist; third = Dist; fourth = Dist }

-- the depots' network: width 10, three nodes and these arcs
abbrev pub depots : OnNetwork
depots = on_network depot_language 3 (matrix_words 3 depot_arcs)

-- the words of the matrix that satisfies the equation and is not the best
abbrev pub depot_route_words : List ℕ
depot_route_words = matrix_words 3 depot_routes

-- the fresh matrix, for a standing one
abbrev pub depot_fresh_words : List ℕ
depot_fresh_words = matrix_words 3 (fresh (language (components_of depot_language)))
