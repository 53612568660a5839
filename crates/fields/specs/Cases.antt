-- The reader's cases from the version to the language, in the order of the file (01, "File" and "Refusal numbers").
-- To be believed: in each case what it tells and where that is due, which is said in words, and the order. That Header and Nested refuse exactly so is
-- proved (proofs/Cases, proofs/Walk).
use Rattle.std.specs.Prelude.{ℕ, zero, suc, ◌+◌, ◌≤◌, ◌≡◌, ◌⊎◌, ◌↔◌, Bool, cond, not, ◌&&◌, ◌||◌, List, [], ◌∷◌, ◌++◌, leb, eqb, length, get_or}
use Rattle.refusals.specs.declared.Refusal.TheVariants.{Bytes, Version, Size, BadComponent, BadCount}
use Rattle.refusals.specs.Cases.{Case, due_unless}
use Rattle.file_bytes.specs.Bytes.{two_at}
use Rattle.fields.specs.Nested.{dist_tag, width_tag, class_tag, product_tag}

-- the byte at an offset
abbrev pub byte_at : List ℕ → ℕ → ℕ
byte_at s at = get_or s at 0

-- 1: of so many bytes from an offset on, not all are there
abbrev pub cut_case : List ℕ → ℕ → ℕ → Case
cut_case s at size = due_unless (leb (at + size) (length s)) (at + size ≤ length s) (Bytes 0) at

-- ---- the header: version at 4, n at 5, m at 6, mode at 7

-- 2: the version is not 1
abbrev pub version_field : List ℕ → Case
version_field s = due_unless (leb 1 (byte_at s 4) && leb (byte_at s 4) 1) (byte_at s 4 ≡ 1) (Version 0) 4

-- 3: n is not 1..16
abbrev pub nodes_field : List ℕ → Case
nodes_field s = due_unless (leb 1 (byte_at s 5) && leb (byte_at s 5) 16) ((1 ≤ byte_at s 5) × (byte_at s 5 ≤ 16)) (Size 0) 5

-- 3: m is over 32
abbrev pub destinations_field : List ℕ → Case
destinations_field s = due_unless (leb 0 (byte_at s 6) && leb (byte_at s 6) 32) (byte_at s 6 ≤ 32) (Size 0) 6

-- the test of a mode against m
abbrev pub mode_agrees : ℕ → ℕ → Bool
mode_agrees m mode = cond (eqb m 0) (leb 0 mode && leb mode 0) (leb 1 mode && leb mode 3)

-- 3: the mode is over 3, or not 0 exactly when m is 0
abbrev pub mode_field : List ℕ → Case
mode_field s = due_unless (mode_agrees (byte_at s 6) (byte_at s 7)) ((byte_at s 7 ≤ 3) × ((byte_at s 7 ≡ 0) ↔ (byte_at s 6 ≡ 0))) (Size 0) 7

-- Field by field: its byte is there, and is in its range.
abbrev pub header_cases : List ℕ → List Case
header_cases s = cut_case s 4 1 ∷ version_field s ∷ cut_case s 5 1 ∷ nodes_field s ∷ cut_case s 6 1 ∷ destinations_field s ∷ cut_case s 7 1 ∷ mode_field s ∷ []

-- ---- the language, tag by tag

-- 4: the tag is not 1..5
abbrev pub tag_case : List ℕ → ℕ → Case
tag_case s at = due_unless (leb dist_tag (byte_at s at) && leb (byte_at s at) product_tag) ((dist_tag ≤ byte_at s at) × (byte_at s at ≤ product_tag)) (BadComponent 0) at

-- 5: the tag is 5, and none of the three is left
abbrev pub product_case : List ℕ → ℕ → ℕ → Case
product_case s at left = due_unless (not (eqb (byte_at s at) product_tag) || leb 1 left) (byte_at s at ≡ product_tag → 1 ≤ left) (BadCount 0) at

-- the tag is a width's or a class's, which a limit follows
abbrev pub HasLimit : ℕ → Type 0
HasLimit tag = (tag ≡ width_tag) ⊎ (tag ≡ class_tag)

-- the test of it
abbrev pub has_limit : ℕ → Bool
has_limit tag = eqb tag width_tag || eqb tag class_tag

-- 1: the two bytes of its limit are not there
abbrev pub limit_cut_case : List ℕ → ℕ → Case
limit_cut_case s at = due_unless (not (has_limit (byte_at s at)) || leb (at + 1 + 2) (length s)) (HasLimit (byte_at s at) → at + 1 + 2 ≤ length s) (Bytes 0) (at + 1)

-- 4: the limit of a width is 0
abbrev pub width_case : List ℕ → ℕ → Case
width_case s at = due_unless (not (eqb (byte_at s at) width_tag) || leb 1 (two_at s (at + 1))) (byte_at s at ≡ width_tag → 1 ≤ two_at s (at + 1)) (BadComponent 0) (at + 1)

-- one tag, and the limit after it, where so many tags 5 are left
abbrev pub tag_cases : List ℕ → ℕ → ℕ → List Case
tag_cases s at left = cut_case s at 1 ∷ tag_case s at ∷ product_case s at left ∷ limit_cut_case s at ∷ width_case s at ∷ []

-- the offset after a component
abbrev pub after_component : List ℕ → ℕ → ℕ
after_component s at = cond (has_limit (byte_at s at)) (at + 3) (at + 1)

-- Tag by tag from an offset on, while languages are wanted: a product wants two in its place and leaves one tag 5 fewer, a component
-- is one of those wanted.
unfoldable pub nested_cases : List ℕ → ℕ → ℕ → ℕ → List Case
nested_cases s at zero zero = []
nested_cases s at zero (suc wanted) = tag_cases s at 0 ++ nested_cases s (after_component s at) zero wanted
nested_cases s at (suc left) zero = []
nested_cases s at (suc left) (suc wanted) =
    tag_cases s at (suc left)
    ++ cond (eqb (byte_at s at) product_tag) (nested_cases s (at + 1) left (suc (suc wanted))) (nested_cases s (after_component s at) (suc left) wanted)
