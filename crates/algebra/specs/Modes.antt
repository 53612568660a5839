-- What a mode of forwarding is, the forwarding sum (002, equation 3) and the forwarding equation.
-- To be believed: all of it. `SemiModule` is what the theorems ask of a mode; that the three modes have it is proved where modes
-- are defined (modes/proofs/SemiModules).
use Rattle.std.specs.Prelude.{ℕ, ◌<◌, ◌≡◌, false, ◌⊎◌, List}
use Rattle.algebra.specs.Order.{Order, Ordered, best_of}
use Rattle.algebra.specs.Algebra.{Algebra}
use Rattle.algebra.specs.Path.{Simple, Matrix, path_weight}

-- A table's entries with their order, the empty entry, and a weight applied to an entry.
pub record Mode (𝓐 : Algebra) : Type 1 where
  pub entries : Order
  pub empty : entries.Thing
  pub apply : 𝓐.Weight → entries.Thing → entries.Thing

module _ (𝓐 : Algebra) (𝓜 : Mode 𝓐) where
  open 𝓐 use {Weight, join, unit, none}
  open 𝓜 use {entries, empty, apply}

  -- Mapping and forwarding tables: an entry for each node and destination.
  abbrev pub Table : Type 0
  Table = ℕ → ℕ → entries.Thing

  -- The entries of n nodes and m destinations are valid.
  abbrev pub ValidTable : ℕ → ℕ → Table → Type 0
  ValidTable n m M = (i d : ℕ) → i < n → d < m → entries.Valid (M i d)

  -- The entry from i for d by way of k: R(i,k) applied to M(k,d).
  abbrev pub carried : Matrix 𝓐 → Table → ℕ → ℕ → ℕ → entries.Thing
  carried R M i d k = apply (R i k) (M k d)

  -- The forwarding sum: F(i,d) is the best over all k below n of R(i,k) applied to M(k,d), and empty where there is none.
  unfoldable pub forwarded : ℕ → Matrix 𝓐 → Table → Table
  forwarded n R M i d = best_of entries n (carried R M i d) empty

  -- (A applied to F) best M: the best of A(i,k) applied to F(k,d) over all k below n, and of M(i,d).
  unfoldable pub onward : ℕ → Matrix 𝓐 → Table → Table → Table
  onward n A M F i d = best_of entries n (carried A F i d) (M i d)

  -- F satisfies the forwarding equation F = (A applied to F) best M.
  abbrev pub Forwards : ℕ → ℕ → Matrix 𝓐 → Table → Table → Type 0
  Forwards n m A M F = (i d : ℕ) → i < n → d < m → F i d ≡ onward n A M F i d

  -- e is the best, over all k and over the paths from i to k that visit no node twice, of the path's weight applied to M(k,d).
  pub record BestForwarded (n : ℕ) (A : Matrix 𝓐) (M : Table) (i d : ℕ) (e : entries.Thing) : Type 0 where
    pub held : (e ≡ empty) ⊎ ((k : ℕ) × (p : List ℕ) × Simple n i k p × (e ≡ apply (path_weight 𝓐 A i p) (M k d)))
    pub unbeaten : (k : ℕ) (p : List ℕ) → Simple n i k p → entries.better (apply (path_weight 𝓐 A i p) (M k d)) e ≡ false

  -- The entries are ordered, empty is worst, and applying a weight keeps join, unit, no route and both orders; all on valid things.
  pub record SemiModule : Type 0 where
    pub ordered : Ordered entries
    pub empty_valid : entries.Valid empty
    pub apply_valid : (w : Weight) (e : entries.Thing) → 𝓐.Valid w → entries.Valid e → entries.Valid (apply w e)
    pub worst : (e : entries.Thing) → entries.Valid e → entries.better empty e ≡ false
    pub apply_unit : (e : entries.Thing) → entries.Valid e → apply unit e ≡ e
    pub apply_none : (e : entries.Thing) → entries.Valid e → apply none e ≡ empty
    pub apply_empty : (w : Weight) → 𝓐.Valid w → apply w empty ≡ empty
    pub apply_join : (v w : Weight) (e : entries.Thing) → 𝓐.Valid v → 𝓐.Valid w → entries.Valid e → apply (join v w) e ≡ apply v (apply w e)
    pub keeps_entries : (w : Weight) (e f : entries.Thing) → 𝓐.Valid w → entries.Valid e → entries.Valid f → entries.better f e ≡ false → entries.better (apply w f) (apply w e) ≡ false
    pub keeps_weights : (v w : Weight) (e : entries.Thing) → 𝓐.Valid v → 𝓐.Valid w → entries.Valid e → 𝓐.better w v ≡ false → entries.better (apply w e) (apply v e) ≡ false
