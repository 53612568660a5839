-- The reader's answer as a row, and what it leaves in the two buffers.
-- To be believed: all of it.
use Rattle.std.specs.Prelude.{ℕ, ◌≡◌, cond, List, ltb, length, Result, Ok, Err}
use Rattle.refusals.specs.declared.Refusal.{Refusal}
use Rattle.refusals.specs.declared.Refusal.TheVariants.{Length}
use Rattle.refusals.specs.declared.Told.{Told}
use Rattle.refusals.specs.Told.{told, done}
use Rattle.weights.specs.declared.Language.{Language}
use Rattle.records.specs.declared.Listing.TheVariants.{Arcs, Attachments}
use Rattle.fields.specs.Nested.{no_language}
use Rattle.records.specs.Records.{list_end}
use Rattle.files.specs.File.{file_read}
use Rattle.contents.specs.Contents.{list_over}
use Rattle.fields.specs.declared.SoundHead.{SoundHead}
use Rattle.files.specs.declared.Problem.{Problem}

-- an answer: number, which and place, then n, m, mode and the language
pub record Row : Type 0 where
  pub told : Told
  pub n : ℕ
  pub m : ℕ
  pub mode : ℕ
  pub language : Language

-- on refusal all other fields are zero, and the language has no components, each place dist
abbrev pub refused_row : Refusal → Row
refused_row r = record { told = told r; n = 0; m = 0; mode = 0; language = no_language }

-- a problem that was read, by its parts
abbrev pub problem_read : ℕ → ℕ → ℕ → Language → Result Problem Refusal
problem_read n m mode l = Ok (record { n = n; m = m; mode = mode; language = l })

-- the row of an answer
abbrev pub read_said : Result Problem Refusal → Row
read_said (Ok p) = record { told = done; n = p.n; m = p.m; mode = p.mode; language = p.language }
read_said (Err r) = refused_row r

-- the row of what a file says
abbrev pub head_row : Result SoundHead Refusal → Row
head_row (Ok t) = record { told = done; n = t.head.n; m = t.head.m; mode = t.head.mode; language = t.head.language }
head_row (Err r) = refused_row r

-- the buffers' lengths come first: A is buffer 1, M is 3
unfoldable pub sized : {X : Type 0} → List ℕ → List ℕ → X → X → X → X
sized arcs mapping short_arcs short_mapping x = cond (ltb (length arcs) 1024) short_arcs (cond (ltb (length mapping) 2560) short_mapping x)

-- the row that a file gives with two buffers
abbrev pub file_row : List ℕ → List ℕ → List ℕ → Row
file_row s arcs mapping = sized arcs mapping (refused_row (Length 1 0)) (refused_row (Length 3 0)) (head_row (file_read s))

-- the arcs of a file over a buffer, which stays as it is where the file is refused
abbrev pub arcs_over : List ℕ → Result SoundHead Refusal → List ℕ → List ℕ
arcs_over s (Ok t) arcs = list_over s t.head Arcs t.next arcs
arcs_over s (Err r) arcs = arcs

-- .. and its attachments
abbrev pub mapping_over : List ℕ → Result SoundHead Refusal → List ℕ → List ℕ
mapping_over s (Ok t) mapping = list_over s t.head Attachments (list_end s t.head Arcs t.next) mapping
mapping_over s (Err r) mapping = mapping

-- what the arcs hold after the reader
abbrev pub arcs_after : List ℕ → List ℕ → List ℕ → List ℕ
arcs_after s arcs mapping = sized arcs mapping arcs arcs (arcs_over s (file_read s) arcs)

-- what the mapping holds after the reader
abbrev pub mapping_after : List ℕ → List ℕ → List ℕ → List ℕ
mapping_after s arcs mapping = sized arcs mapping mapping mapping (mapping_over s (file_read s) mapping)

-- The reader's promise: of a file and two buffers, the answer's row and what the buffers hold afterwards.
pub record ReadSays (s arcs mapping arcs' mapping' : List ℕ) (r : Result Problem Refusal) : Type 0 where
  pub answer : read_said r ≡ file_row s arcs mapping
  pub arcs_hold : arcs' ≡ arcs_after s arcs mapping
  pub mapping_holds : mapping' ≡ mapping_after s arcs mapping
