-- What a read leaves, in the words of the calls that are given it: numbers in range, a sound language, no malformed entry.
-- To be believed: all of it. That every read that is done leaves it is `read_well` (proofs/WellFormed).
use Rattle.std.specs.Prelude.{ℕ, ◌+◌, ◌*◌, ◌≤◌, ◌<◌, ◌≡◌, true, List, [], ◌∷◌, ◌++◌, ltb, take, drop, replicate, Ok}
use Rattle.weights.specs.declared.Component.{Component}
use Rattle.weights.specs.declared.Language.{Language}
use Rattle.weights.specs.Sizes.{weight_words, entry_words, ones, arc_sum}
use Rattle.weights.specs.Weights.{Weight}
use Rattle.weights.specs.Languages.{components_of, language_check}
use Rattle.weights.specs.Words.{words, good, reading, is_good}
use Rattle.encoded.specs.Encode.{SoundOutside}

-- an entry of a mapping: empty, or a route of the language with its t
pub data EntryWell (mode : ℕ) (cs : List Component) (ws : List ℕ) : Type 0 where
  empty : ws ≡ replicate entry_words ones → EntryWell mode cs ws
  attached : (w : Weight) (t : ℕ) → ws ≡ words w ++ (t ∷ []) → reading arc_sum cs (words w) ≡ good w → SoundOutside (ltb mode 2) t → EntryWell mode cs ws

-- n, k destinations, mode, language, arcs and mapping as the calls want them, every sum at most 65,535
pub record WellFormed (arcs mapping : List ℕ) (n k mode : ℕ) (l : Language) : Type 0 where
  pub nodes : (1 ≤ n) × (n ≤ 16)
  pub destinations : k ≤ 32
  pub no_mode : k ≡ 0 → mode ≡ 0
  pub some_mode : (k ≡ 0 → ⊥) → (1 ≤ mode) × (mode ≤ 3)
  pub language_passes : language_check l ≡ Ok tt
  pub arcs_well : (i j : ℕ) → i < n → j < n → is_good (reading arc_sum (components_of l) (take weight_words (drop (i * (n * weight_words) + j * weight_words) arcs))) ≡ true
  pub mapping_well : (i d : ℕ) → i < n → d < k → EntryWell mode (components_of l) (take entry_words (drop (i * (k * entry_words) + d * entry_words) mapping))
