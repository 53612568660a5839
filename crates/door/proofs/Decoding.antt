-- The component of each kind, and the language of a slice; what the calls refuse of them: another length 5, an unknown kind 4.
use Prim.Native.Nat.{ℕ}
use mathlib.Core.Path.{◌≡◌, sym, ap}
use mathlib.Core.Bool.{false}
use mathlib.Core.List.{List}
use lib.ListN.{length, get_or}
use borrow.Author.Tests.{eq-eqb, ne_eqb}
use Rattle.refusals.specs.declared.Refusal.TheVariants.{BadCount}
use Rattle.weights.specs.declared.Component.{Component}
use Rattle.weights.specs.declared.Component.TheVariants.{Dist, Width, Class, Gain}
use Rattle.weights.specs.declared.Language.{Language}
use Rattle.weights.specs.Languages.{count_case, sound_limit}
use Rattle.fields.specs.Nested.{no_language}
use Rattle.door.specs.Languages.{language_numbers, component_of, language_of}
use Rattle.std.specs.Prelude.{Err}

module _ (kind limit : ℕ) where
  pub is_dist : kind ≡ 1 → Dist ≡ component_of kind limit
  is_dist e = rw (eq-eqb kind 1 e)

  module _ (d : kind ≡ 1 → ⊥) where
    pub is_width : kind ≡ 2 → Width limit ≡ component_of kind limit
    is_width e = rw (ne_eqb kind 1 d, eq-eqb kind 2 e)

    module _ (w : kind ≡ 2 → ⊥) where
      pub is_class : kind ≡ 3 → Class limit ≡ component_of kind limit
      is_class e = rw (ne_eqb kind 1 d, ne_eqb kind 2 w, eq-eqb kind 3 e)

      module _ (k : kind ≡ 3 → ⊥) where
        pub is_gain_lem : kind ≡ 4 → Gain ≡ component_of kind limit
        is_gain_lem e = rw (ne_eqb kind 1 d, ne_eqb kind 2 w, ne_eqb kind 3 k, eq-eqb kind 4 e)

        -- an unknown kind is width 0
        pub is_unknown : (kind ≡ 4 → ⊥) → Width 0 ≡ component_of kind limit
        is_unknown g = rw (ne_eqb kind 1 d, ne_eqb kind 2 w, ne_eqb kind 3 k, ne_eqb kind 4 g)

pub no_language_lem : (s : List ℕ) → (length s ≡ language_numbers → ⊥) → no_language ≡ language_of s
unfolding language_of
no_language_lem s h = rw (ne_eqb (length s) language_numbers h)

pub made_language : (s : List ℕ) (a b c d : Component) → length s ≡ language_numbers
    → a ≡ component_of (get_or s 1 0) (get_or s 2 0) → b ≡ component_of (get_or s 3 0) (get_or s 4 0) → c ≡ component_of (get_or s 5 0) (get_or s 6 0) → d ≡ component_of (get_or s 7 0) (get_or s 8 0)
    → ◌≡◌ {A = Language} record { count = get_or s 0 0; first = a; second = b; third = c; fourth = d } (language_of s)
unfolding language_of
made_language s a b c d h p q r t = rw (eq-eqb (length s) language_numbers h, p, q, r, t)

-- ---- refused

-- a slice of another length than nine is refused 5
pub length_refused : (s : List ℕ) → (length s ≡ language_numbers → ⊥) → (count_case (language_of s)).check ≡ Err (BadCount 0 0)
length_refused s h = ap (λ (l : Language). (count_case l).check) (sym (no_language_lem s h))

-- a component of an unknown kind is unsound, whatever its limit: 4 at its index, where no earlier one is
pub unknown_unsound : (kind limit : ℕ) → (kind ≡ 1 → ⊥) → (kind ≡ 2 → ⊥) → (kind ≡ 3 → ⊥) → (kind ≡ 4 → ⊥) → sound_limit (component_of kind limit) ≡ false
unknown_unsound kind limit d w k g = ap sound_limit (sym (is_unknown kind limit d w k g))
