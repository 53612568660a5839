-- What the theorems on reading say of a file that is taken: it is the file of a sound problem, which is given back, its numbers in
-- their ranges. To be believed: all but `next_of` and `GivenBack`, on the way to `read_encode`. That it holds is proved
-- (proofs/Whole, proofs/Taken, proofs/Sizes, proofs/WellFormed).
use Rattle.std.specs.Prelude.{ℕ, ◌+◌, ◌≤◌, ◌≡◌, List, length, get_or}
use Rattle.weights.specs.declared.Language.{Language}
use Rattle.weights.specs.Sizes.{places}
use Rattle.fields.specs.declared.Found.{Found}
use Rattle.fields.specs.declared.Head.{Head}
use Rattle.records.specs.declared.Listing.TheVariants.{Arcs, Attachments}
use Rattle.file_bytes.specs.Bytes.{two_at}
use Rattle.fields.specs.Nested.{with_component, with_tag}
use Rattle.records.specs.Records.{list_end}
use Rattle.files.specs.File.{file_read}
use Rattle.contents.specs.Contents.{listed_table, list_over}
use Rattle.encoded.specs.Encode.{Problem, SoundProblem, Nesting, one, product, nested, language_bytes, encode, head_of, encoded_table}
use Rattle.fields.specs.Header.{sound_head}

-- every element is a byte
abbrev pub AreBytes : List ℕ → Type 0
AreBytes s = (i : ℕ) → get_or s i 0 ≤ 255

-- what has been found once a language is read after f
abbrev pub found_after : Found → Nesting → Found
found_after f (one c) = with_component f c
found_after f (product x y) = found_after (found_after (with_tag f) x) y

-- the file s is that of a sound problem with the head h, under some nesting of its products
pub record Encoded (s : List ℕ) (h : Head) : Type 0 where
  pub problem : Problem
  pub sound : SoundProblem problem
  pub nesting : Nesting
  pub nests : nested nesting ≡ problem.language
  pub bytes : s ≡ encode problem nesting
  pub head : head_of problem ≡ h

-- where the arcs begin: after the eight bytes before the language, and the language
abbrev pub next_of : Nesting → ℕ
next_of t = 8 + length (language_bytes t)

-- the file s is read as the problem p: its head, its arcs and its mapping
pub record GivenBack (p : Problem) (t : Nesting) (s : List ℕ) : Type 0 where
  pub checked : file_read s ≡ sound_head (next_of t) (head_of p)
  pub arcs_are : listed_table s (head_of p) Arcs (next_of t + 2) (two_at s (next_of t)) ≡ encoded_table (head_of p) Arcs p.arcs
  pub mapping_is : listed_table s (head_of p) Attachments (list_end s (head_of p) Arcs (next_of t) + 2) (two_at s (list_end s (head_of p) Arcs (next_of t)))
      ≡ encoded_table (head_of p) Attachments p.attachments

-- n 1..16, m to 32, mode 0 exactly when m is 0, one to four components
pub record InRanges (h : Head) : Type 0 where
  pub nodes : (1 ≤ h.n) × (h.n ≤ 16)
  pub destinations : h.m ≤ 32
  pub no_mode : h.m ≡ 0 → h.mode ≡ 0
  pub some_mode : (h.m ≡ 0 → ⊥) → (1 ≤ h.mode) × (h.mode ≤ 3)
  pub components : (1 ≤ h.language.count) × (h.language.count ≤ places)

-- what done with n, k, mode and l means: the file s passes with these numbers, and its lists stand over what a and m held
pub record DoneMeans (s a m a' m' : List ℕ) (n k mode : ℕ) (l : Language) : Type 0 where
  pub next : ℕ
  pub head : Head
  pub read : file_read s ≡ sound_head next head
  pub n_is : head.n ≡ n
  pub m_is : head.m ≡ k
  pub mode_is : head.mode ≡ mode
  pub language_is : head.language ≡ l
  pub arcs_are : a' ≡ list_over s head Arcs next a
  pub mapping_is : m' ≡ list_over s head Attachments (list_end s head Arcs next) m
