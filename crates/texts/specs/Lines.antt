-- The printed lines, as bytes (01, "The printed case").
-- To be believed: all of it.
use Rattle.std.specs.Prelude.{ℕ, Bool, true, false, cond, List, [], ◌∷◌, ◌++◌, eqb}
use Rattle.refusals.specs.declared.Told.{Told}
use Rattle.weights.specs.Weights.{Weight, none, route}
use Rattle.matrices.specs.Buffers.{blocks}
use Rattle.modes.specs.Entries.{Entry, empty, mapped}
use Rattle.decimals.specs.Digits.{decimal}

-- ---- bytes

-- a space
abbrev pub space_byte : ℕ
space_byte = 32

-- the end of a line
abbrev pub feed_byte : ℕ
feed_byte = 10

-- "-", for no route or empty
abbrev pub dash_byte : ℕ
dash_byte = 45

-- ---- the words that lines begin with

-- LAWS
abbrev pub word_laws : List ℕ
word_laws = 76 ∷ 65 ∷ 87 ∷ 83 ∷ []

-- R
abbrev pub word_r : List ℕ
word_r = 82 ∷ []

-- F
abbrev pub word_f : List ℕ
word_f = 70 ∷ []

-- REFUSED
abbrev pub word_refused : List ℕ
word_refused = 82 ∷ 69 ∷ 70 ∷ 85 ∷ 83 ∷ 69 ∷ 68 ∷ []

-- ---- fields

-- a number after a space
abbrev pub field : ℕ → List ℕ
field x = space_byte ∷ decimal x

-- numbers, each after a space
abbrev pub spaced : List ℕ → List ℕ
spaced [] = []
spaced (x ∷ xs) = field x ++ spaced xs

-- "-" is no route or empty
abbrev pub missing : List ℕ
missing = space_byte ∷ dash_byte ∷ []

-- a weight's components
abbrev pub weight_text : Weight → List ℕ
weight_text none = missing
weight_text (route xs) = spaced xs

-- t is omitted in plain mode, which is mode 1
abbrev pub outside_text : ℕ → ℕ → List ℕ
outside_text mode t = cond (eqb mode 1) [] (field t)

-- an entry's components, and t
abbrev pub entry_text : ℕ → Entry → List ℕ
entry_text mode empty = missing
entry_text mode (mapped xs t) = spaced xs ++ outside_text mode t

-- ---- lines

-- a word, what follows it, and a line feed
abbrev pub line : List ℕ → List ℕ → List ℕ
line word rest = word ++ (rest ++ (feed_byte ∷ []))

-- 1 where a law holds, else 0
abbrev pub bit : Bool → ℕ
bit true = 1
bit false = 0

-- LAWS gives D U C
unfoldable pub laws_line : Bool → Bool → Bool → List ℕ
laws_line d u c = line word_laws (spaced (bit d ∷ bit u ∷ bit c ∷ []))

-- R gives from, to, components
unfoldable pub route_line : ℕ → ℕ → Weight → List ℕ
route_line i j w = line word_r (spaced (i ∷ j ∷ []) ++ weight_text w)

-- F gives node, destination, components, t
unfoldable pub entry_line : ℕ → ℕ → ℕ → Entry → List ℕ
entry_line mode i d e = line word_f (spaced (i ∷ d ∷ []) ++ entry_text mode e)

-- number, which, place
unfoldable pub refused_line : Told → List ℕ
refused_line t = line word_refused (spaced (t.number ∷ t.which ∷ t.place ∷ []))

-- ---- by rows

-- the R lines of row i
abbrev pub route_row : ℕ → (ℕ → ℕ → Weight) → ℕ → List ℕ
route_row n R i = blocks n (λ j. route_line i j (R i j))

-- the R lines of a matrix
abbrev pub route_lines : ℕ → (ℕ → ℕ → Weight) → List ℕ
route_lines n R = blocks n (route_row n R)

-- the F lines of node i
abbrev pub entry_row : ℕ → ℕ → (ℕ → ℕ → Entry) → ℕ → List ℕ
entry_row mode m F i = blocks m (λ d. entry_line mode i d (F i d))

-- the F lines of a table
abbrev pub entry_lines : ℕ → ℕ → ℕ → (ℕ → ℕ → Entry) → List ℕ
entry_lines mode n m F = blocks n (entry_row mode m F)
