-- Class 0 in the unused places changes nothing of tables: entries, their comparison, and the forwarding sum are those of the
-- language's components, with words 0 after the values.
use Prim.Native.Nat.{ℕ, ◌≤◌, ◌<◌}
use mathlib.Core.Path.{◌≡◌, refl, ap, ap₂}
use mathlib.Core.Bool.{Bool}
use mathlib.Core.List.{List, [], ◌∷◌, ◌++◌}
use lib.Dec.{ltb}
use lib.ListN.{length}
use Rattle.algebra.specs.Modes.{forwarded}
use Rattle.algebra.proofs.Embedding.{GoesTo}
use Rattle.algebra.proofs.Carrying.{Carries, Leads, forwarded_leads}
use Rattle.weights.specs.declared.Component.{Component}
use Rattle.weights.specs.Sizes.{weight_words}
use Rattle.weights.specs.Weights.{Weight, none, route, Valid, ValidValues, language}
use Rattle.weights.specs.Languages.{padded}
use Rattle.weights.specs.Words.{filled}
use Rattle.weights.proofs.Ordering.{join_valid}
use Rattle.weights.proofs.Padding.{pad_weight, better_pad, join_pad, filled_twice}
use Rattle.modes.specs.declared.Mode.{Mode}
use Rattle.modes.specs.declared.Mode.TheVariants.{Plain, Hot, Cold}
use Rattle.modes.specs.Entries.{Entry, empty, mapped, first_then, comparing, better_entry, applied, ValidT, ValidEntry, mode_of}
use Rattle.tables.specs.Tables.{words_of}

-- an entry with words 0 after its route's values
abbrev pub pad_entry : ℕ → Entry → Entry
pad_entry n empty = empty
pad_entry n (mapped xs t) = mapped (filled n xs) t

-- the words are the same
pub entry_words_pad : (e : Entry) → words_of (pad_entry weight_words e) ≡ words_of e
unfolding words_of
entry_words_pad empty = refl
entry_words_pad (mapped xs t) = ap (λ (l : List ℕ). l ++ (t ∷ [])) (filled_twice weight_words xs)

module _ (n : ℕ) (cs : List Component) (h : length cs ≤ n) where
  compare_pad : (mode : Mode) (xs : List ℕ) (t : ℕ) (ys : List ℕ) (u : ℕ) → ValidValues cs xs → ValidValues cs ys
      → comparing mode (padded n cs) (route (filled n xs)) t (route (filled n ys)) u ≡ comparing mode cs (route xs) t (route ys) u
  compare_pad Plain xs t ys u v w = better_pad n cs xs ys h v w
  compare_pad Hot xs t ys u v w = ap₂ (λ (a b : Bool). first_then a b (ltb t u)) (better_pad n cs xs ys h v w) (better_pad n cs ys xs h w v)
  compare_pad Cold xs t ys u v w = ap (first_then (ltb t u) (ltb u t)) (better_pad n cs xs ys h v w)

  module _ (mode : Mode) where
    better_entry_pad : (e f : Entry) → ValidEntry (ValidT mode) cs e → ValidEntry (ValidT mode) cs f
        → better_entry (comparing mode (padded n cs)) (pad_entry n e) (pad_entry n f) ≡ better_entry (comparing mode cs) e f
    better_entry_pad empty f v w = refl
    better_entry_pad (mapped xs t) empty v w = refl
    better_entry_pad (mapped xs t) (mapped ys u) v w = compare_pad mode xs t ys u v.0 w.0

    applied_in : (w : Weight) (e : Entry) → Valid cs w → ValidEntry (ValidT mode) cs e → ValidEntry (ValidT mode) cs (applied cs w e)
    applied_in w empty vw ve = tt
    applied_in none (mapped ys t) vw ve = tt
    applied_in (route xs) (mapped ys t) vw ve = (join_valid cs (route xs) (route ys) vw ve.0, ve.1)

    applied_pad : (w : Weight) (e : Entry) → Valid cs w → ValidEntry (ValidT mode) cs e → pad_entry n (applied cs w e) ≡ applied (padded n cs) (pad_weight n w) (pad_entry n e)
    applied_pad w empty vw ve = refl
    applied_pad none (mapped ys t) vw ve = refl
    applied_pad (route xs) (mapped ys t) vw ve = ap (λ (l : List ℕ). mapped l t) (join_pad n cs xs ys h vw ve.0)

    -- the padded language's mode holds the language's
    pub mode_padding : Carries (language cs) (language (padded n cs)) (Valid cs) (pad_weight n) (mode_of mode cs) (mode_of mode (padded n cs)) (ValidEntry (ValidT mode) cs) (pad_entry n)
    mode_padding = record { empty_in = tt; apply_in = applied_in; of_empty = refl; of_apply = applied_pad; of_better = better_entry_pad }

    -- two tables: the one in the language, and the same with words 0 after the values
    abbrev pub PadsTo : ℕ → ℕ → (ℕ → ℕ → Entry) → (ℕ → ℕ → Entry) → Type 0
    PadsTo k m M T = (i d : ℕ) → i < k → d < m → Leads (ValidEntry (ValidT mode) cs) (pad_entry n) (M i d) (T i d)

    -- The forwarding sum in the places is the language's with words 0 after it.
    pub forwarded_pad : (k m : ℕ) (R S : ℕ → ℕ → Weight) → GoesTo (language cs) (language (padded n cs)) (Valid cs) (pad_weight n) k R S → (M T : ℕ → ℕ → Entry) → PadsTo k m M T
        → PadsTo k m (forwarded (language cs) (mode_of mode cs) k R M) (forwarded (language (padded n cs)) (mode_of mode (padded n cs)) k S T)
    forwarded_pad k m R S r M T t = forwarded_leads (language cs) (language (padded n cs)) (Valid cs) (pad_weight n) (mode_of mode cs) (mode_of mode (padded n cs)) (ValidEntry (ValidT mode) cs) (pad_entry n) mode_padding k m R S r M T t
