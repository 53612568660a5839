-- The next hop's rule (01, "Forwarding and the next hop"): "the lowest k other than i whose arc gives the route its weight".
-- To be believed: `ArcGivesWeight` and `NextHop`. That `hop_of`, of which the contracts speak, gives exactly that node is
-- `hop_exactly` (proofs/Rule); `found_at` joins the code to it.
use Rattle.std.specs.Prelude.{ℕ, zero, suc, ◌<◌, ◌≡◌, Bool, cond, not, ◌&&◌, ◌||◌, List, eqb, Some, None, Option}
use Rattle.weights.specs.declared.Component.{Component}
use Rattle.weights.specs.Weights.{none, join}
use Rattle.weights.specs.Values.{same}
use Rattle.matrices.specs.Steps.{Matrix}
use Rattle.numbers.specs.declared.Node.{Node}

-- k is other than i, and its arc gives the route its weight: A(i,k) joined R(k,j) equals R(i,j)
pub record ArcGivesWeight (cs : List Component) (n : ℕ) (A R : Matrix) (i j k : ℕ) : Type 0 where
  pub below : k < n
  pub other : k ≡ i → ⊥
  pub gives : join cs (A i k) (R k j) ≡ R i j

-- k is the next hop from i to j: the lowest such k, where i is not j and R(i,j) is a route
pub record NextHop (cs : List Component) (n : ℕ) (A R : Matrix) (i j k : ℕ) : Type 0 where
  pub apart : i ≡ j → ⊥
  pub route : R i j ≡ none → ⊥
  pub hop : ArcGivesWeight cs n A R i j k
  pub lowest : (m : ℕ) → m < k → ArcGivesWeight cs n A R i j m → ⊥

-- ---- the same, computed

-- the test of one k
abbrev pub is_hop : List Component → Matrix → Matrix → ℕ → ℕ → ℕ → Bool
is_hop cs A R i j k = not (eqb k i) && same (join cs (A i k) (R k j)) (R i j)

-- the lowest of the c numbers from k on that passes the test
unfoldable pub lowest_from : (ℕ → Bool) → ℕ → ℕ → Option ℕ
lowest_from test k zero = None
lowest_from test k (suc c) = cond (test k) (Some k) (lowest_from test (suc k) c)

-- none where i = j, where R(i,j) is no route, or where no such k exists
abbrev pub hop_of : List Component → ℕ → Matrix → Matrix → ℕ → ℕ → Option ℕ
hop_of cs n A R i j = cond (eqb i j || same (R i j) none) None (lowest_from (is_hop cs A R i j) 0 n)

-- what the code's search says
abbrev pub found_at : Option Node → Option ℕ
found_at (Some node) = Some node.0
found_at None = None
