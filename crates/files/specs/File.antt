-- What a problem file says, or the first refusal in the order of the file (01, "File" and "Refusal numbers").
-- To be believed: all of it, but that its refusals are those of the file's words, which is `read_told` (proofs/Cases).
use Rattle.std.specs.Prelude.{ℕ, ◌-◌, Bool, cond, ◌&&◌, List, leb, eqb, length, Result, Ok, Err}
use Rattle.refusals.specs.declared.Refusal.TheVariants.{Bytes}
use Rattle.fields.specs.declared.Head.{Head}
use Rattle.file_bytes.specs.Bytes.{four_at}
use Rattle.fields.specs.Header.{head_read, sound_head}
use Rattle.records.specs.Records.{body_check}
use Rattle.refusals.specs.Checks.{Check}
use Rattle.fields.specs.declared.SoundHead.{SoundHead}
use Rattle.refusals.specs.declared.Refusal.{Refusal}

-- the four bytes of the count are there, and count the bytes after them
abbrev pub count_right : List ℕ → Bool
count_right s = leb 4 (length s) && eqb (four_at s 0) (length s - 4)

-- the head where the check passes, else its refusal
abbrev pub head_once_checked : ℕ → Head → Check → Result SoundHead Refusal
head_once_checked next h (Ok _) = sound_head next h
head_once_checked next h (Err r) = Err r

-- the head that was read, once the body has passed too
abbrev pub with_body : List ℕ → Result SoundHead Refusal → Result SoundHead Refusal
with_body s (Err r) = Err r
with_body s (Ok t) = head_once_checked t.next t.head (body_check s t.head t.next)

-- The head and the offset of the arcs, or the first refusal in the order of the file.
unfoldable pub file_read : List ℕ → Result SoundHead Refusal
file_read s = cond (count_right s) (with_body s (head_read s)) (Err (Bytes 0 0))
