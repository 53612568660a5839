-- A problem, and its file under a nesting of its products (01, "File").
-- To be believed: all of it. That the reader takes exactly these files is proved (proofs/Whole, proofs/Taken).
use Rattle.std.specs.Prelude.{ℕ, zero, suc, ◌+◌, ◌*◌, ◌/◌, ◌%◌, ◌≤◌, ◌<◌, ◌≡◌, List, [], ◌∷◌, ◌++◌, Bool, true, false, cond, ◌&&◌, ltb, eqb, length}
use Rattle.weights.specs.declared.Component.{Component}
use Rattle.weights.specs.declared.Component.TheVariants.{Dist, Width, Class, Gain}
use Rattle.weights.specs.declared.Language.{Language}
use Rattle.weights.specs.Sizes.{places, arc_sum}
use Rattle.weights.specs.Weights.{route, Sound}
use Rattle.weights.specs.Languages.{SmallLimits}
use Rattle.weights.specs.Words.{words, in_range}
use Rattle.fields.specs.declared.Head.{Head}
use Rattle.records.specs.declared.Listing.{Listing}
use Rattle.records.specs.declared.Listing.TheVariants.{Arcs, Attachments}
use Rattle.fields.specs.Nested.{dist_tag, width_tag, class_tag, gain_tag, product_tag, language_of_places}
use Rattle.contents.specs.Contents.{columns, grid, with_outside, unlisted}

-- ---- problems

-- an arc, or an attachment with its outside number t
pub record ListEntry : Type 0 where
  pub row : ℕ
  pub column : ℕ
  pub values : List ℕ
  pub outside : ℕ

-- what a file says: the numbers of the network, the language, and the two lists
pub record Problem : Type 0 where
  pub n : ℕ
  pub m : ℕ
  pub mode : ℕ
  pub language : List Component
  pub arcs : List ListEntry
  pub attachments : List ListEntry

-- a value of each component
abbrev pub SoundValues : List Component → List ℕ → Type 0
SoundValues [] [] = Unit {0}
SoundValues [] (v ∷ vs) = ⊥
SoundValues (c ∷ cs) [] = ⊥
SoundValues (c ∷ cs) (v ∷ vs) = (in_range arc_sum c v ≡ true) × SoundValues cs vs

-- t is 0 in plain mode and of two bytes in modes 2 and 3; an arc has none
abbrev pub SoundOutside : Bool → ℕ → Type 0
SoundOutside true t = t ≡ 0
SoundOutside false t = t ≤ 65535

-- the list has no t in this mode
abbrev pub no_outside : Listing → ℕ → Bool
no_outside Arcs mode = true
no_outside Attachments mode = ltb mode 2

-- one entry after entries whose ends, as two bytes, are below low
pub record SoundEntry (n columns mode : ℕ) (cs : List Component) (list : Listing) (low : ℕ) (e : ListEntry) : Type 0 where
  pub row_in : e.row < n
  pub column_in : e.column < columns
  pub after : low ≤ e.row * 256 + e.column
  pub sound : SoundValues cs e.values
  pub out : SoundOutside (no_outside list mode) e.outside

-- the entries ascend strictly
abbrev pub SoundEntries : ℕ → ℕ → ℕ → List Component → Listing → ℕ → List ListEntry → Type 0
SoundEntries n columns mode cs list low [] = Unit {0}
SoundEntries n columns mode cs list low (e ∷ es) = SoundEntry n columns mode cs list low e × SoundEntries n columns mode cs list (e.row * 256 + e.column + 1) es

-- Sound: n 1..16, m to 32, mode 0 exactly when m is 0, one to four components with sound limits, entries and t in range.
pub record SoundProblem (p : Problem) : Type 0 where
  pub nodes : (1 ≤ p.n) × (p.n ≤ 16)
  pub destinations : p.m ≤ 32
  pub no_mode : p.m ≡ 0 → p.mode ≡ 0
  pub some_mode : (p.m ≡ 0 → ⊥) → (1 ≤ p.mode) × (p.mode ≤ 3)
  pub components : (1 ≤ length p.language) × (length p.language ≤ places)
  pub limits : Sound p.language
  pub small : SmallLimits 65535 p.language
  pub arcs_sound : SoundEntries p.n p.n p.mode p.language Arcs 0 p.arcs
  pub attachments_sound : SoundEntries p.n p.m p.mode p.language Attachments 0 p.attachments

-- ---- its file

-- a language under a nesting of its products
pub data Nesting : Type 0 where
  one : Component → Nesting
  product : Nesting → Nesting → Nesting

-- its components, from left to right
abbrev pub nested : Nesting → List Component
nested (one c) = c ∷ []
nested (product x y) = nested x ++ nested y

-- a number in two bytes, the first the larger
unfoldable pub bytes2 : ℕ → List ℕ
bytes2 v = v / 256 ∷ v % 256 ∷ []

-- a number in four bytes, the first the largest
abbrev pub bytes4 : ℕ → List ℕ
bytes4 v = bytes2 (v / 65536) ++ bytes2 (v % 65536)

-- the tag of a component, and its limit
abbrev pub component_bytes : Component → List ℕ
component_bytes Dist = dist_tag ∷ []
component_bytes (Width w) = width_tag ∷ bytes2 w
component_bytes (Class c) = class_tag ∷ bytes2 c
component_bytes Gain = gain_tag ∷ []

-- a component, or the product tag and two languages
abbrev pub language_bytes : Nesting → List ℕ
language_bytes (one c) = component_bytes c
language_bytes (product x y) = product_tag ∷ (language_bytes x ++ language_bytes y)

-- two bytes for each value
abbrev pub value_bytes : List ℕ → List ℕ
value_bytes [] = []
value_bytes (v ∷ vs) = bytes2 v ++ value_bytes vs

-- t, in an attachment of modes 2 and 3
abbrev pub outside_bytes : Listing → ℕ → ℕ → List ℕ
outside_bytes Arcs mode t = []
outside_bytes Attachments mode t = cond (ltb mode 2) [] (bytes2 t)

-- the two ends, the values, and t
abbrev pub entry_bytes : Listing → ℕ → ListEntry → List ℕ
entry_bytes list mode e = e.row ∷ e.column ∷ (value_bytes e.values ++ outside_bytes list mode e.outside)

-- one entry after another
abbrev pub entries_bytes : Listing → ℕ → List ListEntry → List ℕ
entries_bytes list mode [] = []
entries_bytes list mode (e ∷ es) = entry_bytes list mode e ++ entries_bytes list mode es

-- a count of two bytes, and the entries
abbrev pub list_bytes : Listing → ℕ → List ListEntry → List ℕ
list_bytes list mode es = bytes2 (length es) ++ entries_bytes list mode es

-- version 1, n, m, mode, the language, arcs, attachments
abbrev pub body_bytes : Problem → Nesting → List ℕ
body_bytes p t =
    1 ∷ p.n ∷ p.m ∷ p.mode ∷ (language_bytes t ++ (list_bytes Arcs p.mode p.arcs ++ list_bytes Attachments p.mode p.attachments))

-- The file of a problem: the count of the bytes after it, in four bytes, and these.
unfoldable pub encode : Problem → Nesting → List ℕ
encode p t = bytes4 (length (body_bytes p t)) ++ body_bytes p t

-- ---- what the reader is to give back

-- the component at place k, dist where there is none
abbrev pub place_in : List Component → ℕ → Component
place_in [] k = Dist
place_in (c ∷ cs) zero = c
place_in (c ∷ cs) (suc k) = place_in cs k

-- the components as a language, its unused places dist
abbrev pub language_with : List Component → Language
language_with cs = language_of_places (length cs) (place_in cs 0) (place_in cs 1) (place_in cs 2) (place_in cs 3)

-- the head of a problem
abbrev pub head_of : Problem → Head
head_of p = record { n = p.n; m = p.m; mode = p.mode; language = language_with p.language }

-- the words of an entry: its weight's, and t after them in an attachment
abbrev pub words_listed : Listing → ListEntry → List ℕ
words_listed list e = with_outside list (words (route e.values)) e.outside

-- the words at (i, j): those of the entry for (i, j), or else what was there
abbrev pub put : Listing → ℕ → ℕ → List ListEntry → List ℕ → List ℕ
put list i j [] ws = ws
put list i j (e ∷ es) ws = put list i j es (cond (eqb i e.row && eqb j e.column) (words_listed list e) ws)

-- the words of a list's table: what isn't listed is no route, or empty
unfoldable pub encoded_table : Head → Listing → List ListEntry → List ℕ
encoded_table h list es = grid h.n (columns h list) (λ i j. put list i j es (unlisted list))

-- no entry is for (i, j)
abbrev pub Unlisted : ℕ → ℕ → List ListEntry → Type 0
Unlisted i j [] = Unit {0}
Unlisted i j (e ∷ es) = ((eqb i e.row && eqb j e.column) ≡ false) × Unlisted i j es
