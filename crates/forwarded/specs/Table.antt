-- What is true of the table that a done call of forward leaves, said of the words in its buffer.
-- To be believed: all of it. That every done call meets it is the theorem `forward_says` (proofs/Forwards).
use Rattle.std.specs.Prelude.{ℕ, ◌<◌, ◌≡◌, List}
use Rattle.algebra.specs.Best.{Best}
use Rattle.algebra.specs.Modes.{Forwards, BestForwarded}
use Rattle.weights.specs.Sizes.{table_sum}
use Rattle.weights.specs.Weights.{language}
use Rattle.modes.specs.Entries.{Entry, mode_of}
use Rattle.tables.specs.Tables.{FormedTable}
use Rattle.guards.specs.OnNetwork.{OnNetwork, components, matrix_on, arcs_on}
use Rattle.forwarding.specs.Calls.{OnTables, table_of, mapping_on, mode_meant, forwarding_sum, forward_left}

-- every entry of R is the best weight over paths that visit no node twice
abbrev pub EveryRouteBest : OnNetwork → List ℕ → Type 0
EveryRouteBest N r = (i j : ℕ) → i < N.n → j < N.n → Best (language (components N)) N.n (arcs_on N) i j (matrix_on N r i j)

module _ (T : OnTables) (f : List ℕ) where
  open T use {network, m, routes}
  open network use {n}

  -- F, the table that the buffer holds after the call
  abbrev pub left : ℕ → ℕ → Entry
  left = table_of T (forward_left T f)

  -- What a done call leaves is the forwarding sum, solves the forwarding equation, is well formed, and best where R is.
  pub record TableSays : Type 0 where
    -- F(i,d) is the best over k of R(i,k) applied to M(k,d)
    pub sum : (i d : ℕ) → i < n → d < m → left i d ≡ forwarding_sum T i d
    -- F = (A applied to F) best M
    pub equation : Forwards (language (components network)) (mode_of (mode_meant T) (components network)) n m (arcs_on network) (mapping_on T) left
    -- the words are a table of the language and the mode, every sum at most 1,048,560
    pub formed : FormedTable (mode_meant T) table_sum (components network) n m (forward_left T f)
    -- where R holds the best weights, F(i,d) is the best over k and over paths from i to k of the path's weight applied to M(k,d)
    pub best : EveryRouteBest network routes → (i d : ℕ) → i < n → d < m → BestForwarded (language (components network)) (mode_of (mode_meant T) (components network)) n (arcs_on network) (mapping_on T) i d (left i d)
