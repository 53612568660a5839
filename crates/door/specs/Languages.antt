-- A language in nine numbers: the count, then kind and limit for each of four places.
-- To be believed: all of it. That the numbers of a language mean that language again is `language_back` (proofs/Back).
use Rattle.std.specs.Prelude.{ℕ, cond, List, [], ◌∷◌, ◌++◌, eqb, length, get_or}
use Rattle.weights.specs.declared.Component.{Component}
use Rattle.weights.specs.declared.Component.TheVariants.{Dist, Width, Class, Gain}
use Rattle.weights.specs.declared.Language.{Language}
use Rattle.fields.specs.Nested.{dist_tag, width_tag, class_tag, gain_tag, no_language}

-- ---- from numbers

-- the numbers of a language
abbrev pub language_numbers : ℕ
language_numbers = 9

-- a kind has the number of the file's tag; dist and gain ignore the limit; an unknown kind is width 0, so refusal 4 at its index
abbrev pub component_of : ℕ → ℕ → Component
component_of kind limit =
    cond (eqb kind dist_tag) Dist
    (cond (eqb kind width_tag) (Width limit)
    (cond (eqb kind class_tag) (Class limit)
    (cond (eqb kind gain_tag) Gain (Width 0))))

-- the count, then kind and limit for each place
abbrev pub language_meant : List ℕ → Language
language_meant s = record {
  count = get_or s 0 0;
  first = component_of (get_or s 1 0) (get_or s 2 0);
  second = component_of (get_or s 3 0) (get_or s 4 0);
  third = component_of (get_or s 5 0) (get_or s 6 0);
  fourth = component_of (get_or s 7 0) (get_or s 8 0);
}

-- The language that a slice means: of another length than nine, one of no components, so refusal 5.
unfoldable pub language_of : List ℕ → Language
language_of s = cond (eqb (length s) language_numbers) (language_meant s) no_language

-- ---- and back

-- the kind and the limit of a component, the limit 0 where it has none
abbrev pub place_numbers : Component → List ℕ
place_numbers Dist = dist_tag ∷ 0 ∷ []
place_numbers (Width limit) = width_tag ∷ limit ∷ []
place_numbers (Class limit) = class_tag ∷ limit ∷ []
place_numbers Gain = gain_tag ∷ 0 ∷ []

-- the nine numbers of a language
abbrev pub numbers_of : Language → List ℕ
numbers_of l = l.count ∷ place_numbers l.first ++ place_numbers l.second ++ place_numbers l.third ++ place_numbers l.fourth
