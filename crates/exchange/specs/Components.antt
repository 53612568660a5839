-- A component and a language in the numbers of a request or of a line.
-- To be believed: all of it.
use Rattle.std.specs.Prelude.{ℕ, List, cond, leb, eqb, get_or}
use Rattle.weights.specs.declared.Component.{Component}
use Rattle.weights.specs.declared.Language.{Language}
use Rattle.weights.specs.declared.Component.TheVariants.{Dist, Width, Class, Gain}

-- 1 dist, 2 width, 3 class, 4 gain, with a limit of 16 bits; any other pair is width 0
abbrev pub component_of : ℕ → ℕ → Component
component_of kind value =
    cond (leb value 65535)
    (cond (eqb kind 1) Dist (cond (eqb kind 2) (Width value) (cond (eqb kind 3) (Class value) (cond (eqb kind 4) Gain (Width 0)))))
    (Width 0)

-- the count, then kind and limit for each of four places
abbrev pub language_of : List ℕ → Language
language_of s = record {
  count = get_or s 0 0;
  first = component_of (get_or s 1 0) (get_or s 2 0);
  second = component_of (get_or s 3 0) (get_or s 4 0);
  third = component_of (get_or s 5 0) (get_or s 6 0);
  fourth = component_of (get_or s 7 0) (get_or s 8 0);
}
