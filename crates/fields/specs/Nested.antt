-- A language in a file: one component, or two languages under a product, nested (01, "File").
-- To be believed: all of it. That the fuel of `language_from` never ends, and that more changes nothing, are theorems (proofs/Fuel).
use Rattle.std.specs.Prelude.{ℕ, zero, suc, ◌+◌, cond, List, leb, eqb, length, get_or, Result, Ok, Err}
use Rattle.refusals.specs.declared.Refusal.TheVariants.{Bytes, BadComponent, BadCount}
use Rattle.weights.specs.declared.Component.{Component}
use Rattle.weights.specs.declared.Component.TheVariants.{Dist, Width, Class, Gain}
use Rattle.weights.specs.declared.Language.{Language}
use Rattle.weights.specs.Sizes.{product_tags}
use Rattle.fields.specs.declared.Found.{Found}
use Rattle.file_bytes.specs.Bytes.{two_at}
use Rattle.fields.specs.declared.Taken.{Taken}
use Rattle.refusals.specs.declared.Refusal.{Refusal}

-- ---- the tags

-- a dist component
abbrev pub dist_tag : ℕ
dist_tag = 1

-- a width component, its limit after the tag
abbrev pub width_tag : ℕ
width_tag = 2

-- a class component, its limit after the tag
abbrev pub class_tag : ℕ
class_tag = 3

-- a gain component
abbrev pub gain_tag : ℕ
gain_tag = 4

-- two languages under a product
abbrev pub product_tag : ℕ
product_tag = 5

-- ---- what has been found

-- a language by its count and its four places
abbrev pub language_of_places : ℕ → Component → Component → Component → Component → Language
language_of_places count first second third fourth = record { count = count; first = first; second = second; third = third; fourth = fourth }

-- no components, each place dist
abbrev pub no_language : Language
no_language = language_of_places 0 Dist Dist Dist Dist

-- c comes in the first unused place; the fourth place takes any later one
unfoldable pub added : Language → Component → Language
added l c =
    cond (eqb l.count 0) (language_of_places (l.count + 1) c l.second l.third l.fourth)
    (cond (eqb l.count 1) (language_of_places (l.count + 1) l.first c l.third l.fourth)
    (cond (eqb l.count 2) (language_of_places (l.count + 1) l.first l.second c l.fourth)
    (language_of_places (l.count + 1) l.first l.second l.third c)))

-- nothing has been read
abbrev pub nothing : Found
nothing = record { tags = 0; language = no_language }

-- a component more
abbrev pub with_component : Found → Component → Found
with_component f c = record { tags = f.tags; language = added f.language c }

-- a product tag more
abbrev pub with_tag : Found → Found
with_tag f = record { tags = f.tags + 1; language = f.language }

-- ---- reading

-- a language that was taken, and the offset after it
abbrev pub taken : ℕ → Found → Result Taken Refusal
taken next f = Ok (record { next = next; found = f })

-- a width, by its tag's offset: its limit is there, and is not 0
abbrev pub width_read : List ℕ → ℕ → Found → Result Taken Refusal
width_read s at f =
    cond (leb (length s) (at + 2)) (Err (Bytes 0 (at + 1)))
    (cond (eqb (two_at s (at + 1)) 0) (Err (BadComponent 0 (at + 1))) (taken (at + 3) (with_component f (Width (two_at s (at + 1))))))

-- a class, by its tag's offset: its limit is there
abbrev pub class_read : List ℕ → ℕ → Found → Result Taken Refusal
class_read s at f = cond (leb (length s) (at + 2)) (Err (Bytes 0 (at + 1))) (taken (at + 3) (with_component f (Class (two_at s (at + 1)))))

-- one component: its tag, and a limit of two bytes for width and class
unfoldable pub component_read : List ℕ → ℕ → Found → Result Taken Refusal
component_read s at f =
    cond (eqb (get_or s at 0) dist_tag) (taken (at + 1) (with_component f Dist))
    (cond (eqb (get_or s at 0) gain_tag) (taken (at + 1) (with_component f Gain))
    (cond (eqb (get_or s at 0) width_tag) (width_read s at f)
    (cond (eqb (get_or s at 0) class_tag) (class_read s at f)
    (Err (BadComponent 0 at)))))

-- what follows a language that was taken
abbrev pub after : Result Taken Refusal → (ℕ → Found → Result Taken Refusal) → Result Taken Refusal
after (Ok t) k = k t.next t.found
after (Err r) k = Err r

-- one language; the fuel bounds how deep products nest
unfoldable pub language_from : ℕ → List ℕ → ℕ → Found → Result Taken Refusal
language_from zero s at f = Err (BadCount 0 at)
language_from (suc fuel) s at f =
    cond (leb (length s) at) (Err (Bytes 0 at))
    (cond (eqb (get_or s at 0) product_tag)
    (cond (leb product_tags f.tags) (Err (BadCount 0 at)) (after (language_from fuel s (at + 1) (with_tag f)) (language_from fuel s)))
    (component_read s at f))

-- one language, after what has been found before it
abbrev pub language_at : List ℕ → ℕ → Found → Result Taken Refusal
language_at = language_from (suc product_tags)
