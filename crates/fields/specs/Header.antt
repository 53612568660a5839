-- The header of a problem file, field by field, and the first refusal where it is wrong (01, "File" and "Refusal numbers").
-- To be believed: all of it, but that its refusals are those of the file's words, which is proved (proofs/Cases).
use Rattle.std.specs.Prelude.{ℕ, cond, ◌&&◌, List, ltb, leb, eqb, length, get_or, Result, Ok, Err}
use Rattle.refusals.specs.declared.Refusal.{Refusal}
use Rattle.refusals.specs.declared.Refusal.TheVariants.{Bytes, Version, Size}
use Rattle.refusals.specs.Checks.{unless, Check}
use Rattle.std.specs.Result.{result_and}
use Rattle.fields.specs.Nested.{nothing, language_at}
use Rattle.fields.specs.declared.Taken.{Taken}
use Rattle.fields.specs.declared.Head.{Head}
use Rattle.fields.specs.declared.SoundHead.{SoundHead}

-- ---- the header: version at 4, n at 5, m at 6, mode at 7, the language at 8

-- a field of one byte: it is there, and lies in lo..hi
unfoldable pub field_check : List ℕ → ℕ → Refusal → ℕ → ℕ → Check
field_check s at r lo hi = result_and (unless (ltb at (length s)) (Bytes 0 at)) (unless (leb lo (get_or s at 0) && leb (get_or s at 0) hi) r)

-- the mode is 0 exactly when m is 0
abbrev pub mode_field_check : List ℕ → Check
mode_field_check s = cond (eqb (get_or s 6 0) 0) (field_check s 7 (Size 0 7) 0 0) (field_check s 7 (Size 0 7) 1 3)

-- version 1, n 1..16, m 0..32, mode
unfoldable pub fields_check : List ℕ → Check
fields_check s =
    result_and (field_check s 4 (Version 0 4) 1 1) (result_and (field_check s 5 (Size 0 5) 1 16) (result_and (field_check s 6 (Size 0 6) 0 32) (mode_field_check s)))

-- a sound head, and the offset of the arcs
abbrev pub sound_head : ℕ → Head → Result SoundHead Refusal
sound_head next h = Ok (record { next = next; head = h })

-- the first refusal of the fields and the language; else the head, and the offset after the language
abbrev pub head_from : Check → List ℕ → Result Taken Refusal → Result SoundHead Refusal
head_from (Err r) s l = Err r
head_from (Ok _) s (Err r) = Err r
head_from (Ok _) s (Ok t) = sound_head t.next (record { n = get_or s 5 0; m = get_or s 6 0; mode = get_or s 7 0; language = t.found.language })

-- Version to language: the head and the offset of the arcs, or the first refusal.
unfoldable pub head_read : List ℕ → Result SoundHead Refusal
head_read s = head_from (fields_check s) s (language_at s 8 nothing)
