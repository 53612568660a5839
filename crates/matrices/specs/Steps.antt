-- A row step with its refusal 11, and the test of the routing equation, on matrices as functions from (i, j) to weights.
-- To be believed: all but `stepped`, which says what the function of a row step leaves, and `Given` and `GivenArcs`, which say what
-- the functions of `arcs`, `rows`, `columns` and the crates above may rely on.
use Rattle.std.specs.Prelude.{ℕ, zero, suc, ◌≡◌, Bool, true, cond, ◌&&◌, List, [], ◌∷◌, leb}
use Rattle.algebra.specs.Step.{row, routed, step}
use Rattle.weights.specs.declared.Component.{Component}
use Rattle.weights.specs.declared.Component.TheVariants.{Dist, Width, Class, Gain}
use Rattle.weights.specs.Sizes.{arc_sum, matrix_sum}
use Rattle.weights.specs.Weights.{Weight, none, route, Sound, language}
use Rattle.weights.specs.Laws.{test_d, test_u}
use Rattle.weights.specs.Languages.{SmallLimits}
use Rattle.weights.specs.Values.{same}
use Rattle.matrices.specs.Buffers.{Formed}

-- a matrix of weights
abbrev pub Matrix : Type 0
Matrix = ℕ → ℕ → Weight

-- a sum (dist, gain) is at most 983,025
abbrev pub sum_fits : Component → ℕ → Bool
sum_fits Dist v = leb v matrix_sum
sum_fits (Width w) v = true
sum_fits (Class c) v = true
sum_fits Gain v = leb v matrix_sum

-- every sum among the values is at most 983,025, whatever the widths and classes are
abbrev pub sums_fit : List Component → List ℕ → Bool
sums_fit [] xs = true
sums_fit (c ∷ cs) [] = true
sums_fit (c ∷ cs) (x ∷ xs) = sum_fits c x && sums_fit cs xs

-- a row step may store the weight: no route, or a route with no sum above 983,025
abbrev pub weight_fits : List Component → Weight → Bool
weight_fits cs none = true
weight_fits cs (route xs) = sums_fit cs xs

-- t 0, .., t (n - 1) all hold
unfoldable pub every : ℕ → (ℕ → Bool) → Bool
every zero t = true
every (suc n) t = every n t && t n

-- row step i would store no sum above 983,025: else it is refused 11
abbrev pub row_fits : List Component → ℕ → Matrix → Matrix → ℕ → Bool
row_fits cs n A R i = every n (λ j. weight_fits cs (routed (language cs) n A R i j))

-- the matrix that row step i leaves: R where it is refused
abbrev pub stepped : List Component → ℕ → Matrix → Matrix → ℕ → Matrix
stepped cs n A R i = cond (row_fits cs n A R i) (step (language cs) n A (row i) R) R

-- row i of R satisfies the equation: each R(i,j) is what row step i would set it to
abbrev pub row_solves : List Component → ℕ → Matrix → Matrix → ℕ → Bool
row_solves cs n A R i = every n (λ j. same (routed (language cs) n A R i j) (R i j))

-- R satisfies R = (A join R) best fresh in every row: a test
abbrev pub solves : List Component → ℕ → Matrix → Matrix → Bool
solves cs n A R = every n (row_solves cs n A R)

-- What a settle is given: a lawful language with small limits, and well-formed arcs.
pub record GivenArcs (cs : List Component) (n : ℕ) (a : List ℕ) : Type 0 where
  pub limits : SmallLimits 65535 cs
  pub sound : Sound cs
  pub law_d_holds : test_d cs ≡ true
  pub law_u_holds : test_u cs ≡ true
  pub arcs : Formed arc_sum cs n a

-- What the inner functions are given: a lawful language with small limits, and well-formed matrices.
pub record Given (cs : List Component) (n : ℕ) (a r : List ℕ) : Type 0 where
  pub limits : SmallLimits 65535 cs
  pub sound : Sound cs
  pub law_d_holds : test_d cs ≡ true
  pub law_u_holds : test_u cs ≡ true
  pub arcs : Formed arc_sum cs n a
  pub routes : Formed matrix_sum cs n r
