-- Demand 1 of the reader: its cases are exact, so it tells each refusal exactly where it is due, and done exactly where none is.
use Prim.Native.Nat.{ℕ, ◌-◌}
use mathlib.Core.Path.{◌≡◌, refl, sym, ap, ◌∙◌}
use mathlib.Core.Bool.{Bool, true, false, cond}
use mathlib.Core.List.{List, [], ◌∷◌, ◌++◌}
use borrow.Author.Tests.{ltb-true, ltb-false, le-leb, lt-leb}
use lib.Dec.{ltb}
use lib.ListN.{length}
use Rattle.refusals.specs.declared.Refusal.TheVariants.{Bytes, Length}
use Rattle.refusals.specs.Checks.{unless, answer_told, Check}
use Rattle.std.specs.Result.{result_and}
use Rattle.refusals.specs.Cases.{check_of, refusal_numbers, ToldExactly, first_cases}
use Rattle.refusals.proofs.Tests.{both_exactly, leb_exactly, eqb_exactly}
use Rattle.refusals.proofs.Cases.{Exact, AllExact, unless_exact, no_more, ◌and◌, append_exact, check_in_turn, told_exactly}
use Rattle.weights.specs.Sizes.{product_tags}
use Rattle.file_bytes.specs.Bytes.{four_at}
use Rattle.fields.specs.declared.Head.{Head}
use Rattle.fields.specs.Nested.{nothing, language_at}
use Rattle.fields.specs.Header.{fields_check, head_from, head_read}
use Rattle.fields.specs.Cases.{header_cases, nested_cases}
use Rattle.fields.proofs.Cases.{header_exact, header_check, nested_exact}
use Rattle.fields.proofs.Walk.{once_read, language_check_lem}
use Rattle.records.specs.Records.{body_check}
use Rattle.records.proofs.Cases.{body_exact, body_check_lem}
use Rattle.files.specs.File.{count_right, head_once_checked, with_body, file_read}
use Rattle.files.specs.Answers.{head_row, refused_row, sized, file_row}
use Rattle.files.specs.Cases.{short_case, bytes_case, after_language_cases, file_cases, read_cases}
use Rattle.std.specs.Prelude.{Ok, Err, Result}
use Rattle.fields.specs.declared.Taken.{Taken}
use Rattle.refusals.specs.declared.Refusal.{Refusal}

-- ---- each case is exact

pub short_exact : (which least : ℕ) (buffer : List ℕ) → Exact (short_case which least buffer)
short_exact which least buffer = unless_exact (Length which) 0 (leb_exactly least (length buffer))

bytes_exact : (s : List ℕ) → Exact (bytes_case s)
bytes_exact s = unless_exact (Bytes 0) 0 (both_exactly (leb_exactly 4 (length s)) (eqb_exactly (four_at s 0) (length s - 4)))

lists_exact : (s : List ℕ) (l : Result Taken Refusal) → AllExact (after_language_cases s l)
lists_exact s (Err r) = no_more
lists_exact s (Ok t) = body_exact s _ t.next

pub file_exact : (s : List ℕ) → AllExact (file_cases s)
file_exact s = bytes_exact s and append_exact (header_exact s) (append_exact (nested_exact s 8 product_tags 1) (lists_exact s (language_at s 8 nothing)))

read_exact : (s arcs mapping : List ℕ) → AllExact (read_cases s arcs mapping)
read_exact s arcs mapping = short_exact 1 1024 arcs and short_exact 3 2560 mapping and file_exact s

-- 01's order, up to the language
pub read_numbers : (s arcs mapping : List ℕ) → refusal_numbers (first_cases 11 (read_cases s arcs mapping)) ≡ 9 ∷ 9 ∷ 1 ∷ 1 ∷ 2 ∷ 1 ∷ 3 ∷ 1 ∷ 3 ∷ 1 ∷ 3 ∷ []
read_numbers s arcs mapping = refl

-- ---- and they are what the reader's definition refuses

head_told : (s : List ℕ) (c : Check) (l : Result Taken Refusal)
    → (head_row (with_body s (head_from c s l))).told ≡ answer_told (result_and c (result_and (once_read l (λ next f. (Ok tt))) (check_of (after_language_cases s l))))
head_told s (Err r) l = refl
head_told s (Ok _) (Err r) = refl
head_told s (Ok _) (Ok t) = once t.next _ (body_check s _ t.next) ∙ ap answer_told (body_check_lem s _ t.next)
  where
    once : (next : ℕ) (h : Head) (c : Check) → (head_row (head_once_checked next h c)).told ≡ answer_told c
    once next h (Ok _) = refl
    once next h (Err r) = refl

head_cases : (s : List ℕ) → (head_row (with_body s (head_read s))).told ≡ answer_told (check_of (header_cases s ++ (nested_cases s 8 product_tags 1 ++ after_language_cases s (language_at s 8 nothing))))
unfolding head_read
head_cases s =
    head_told s (fields_check s) (language_at s 8 nothing)
    ∙ ap answer_told
    (check_in_turn (header_cases s) (nested_cases s 8 product_tags 1 ++ after_language_cases s (language_at s 8 nothing)) (header_check s)
    (check_in_turn (nested_cases s 8 product_tags 1) (after_language_cases s (language_at s 8 nothing)) (sym (language_check_lem s)) refl))

file_cases_lem : (s : List ℕ) → (head_row (file_read s)).told ≡ answer_told (check_of (file_cases s))
unfolding file_read
file_cases_lem s = go (count_right s)
  where
    go : (b : Bool) → (head_row (cond b (with_body s (head_read s)) (Err (Bytes 0 0)))).told ≡ answer_told (result_and (unless b (Bytes 0 0)) (check_of (header_cases s ++ (nested_cases s 8 product_tags 1 ++ after_language_cases s (language_at s 8 nothing)))))
    go true = head_cases s
    go false = refl

pub read_check : (s arcs mapping : List ℕ) → (file_row s arcs mapping).told ≡ answer_told (check_of (read_cases s arcs mapping))
unfolding sized
read_check s arcs mapping = go (ltb (length arcs) 1024) (ltb (length mapping) 2560) refl refl
  where
    go : (a b : Bool) → ltb (length arcs) 1024 ≡ a → ltb (length mapping) 2560 ≡ b
        → (cond a (refused_row (Length 1 0)) (cond b (refused_row (Length 3 0)) (head_row (file_read s)))).told ≡ answer_told (check_of (read_cases s arcs mapping))
    go true b p q = rw (lt-leb 1024 (length arcs) (ltb-true (length arcs) 1024 p))
    go false true p q = rw (le-leb 1024 (length arcs) (ltb-false (length arcs) 1024 p), lt-leb 2560 (length mapping) (ltb-true (length mapping) 2560 q))
    go false false p q = rw (le-leb 1024 (length arcs) (ltb-false (length arcs) 1024 p), le-leb 2560 (length mapping) (ltb-false (length mapping) 2560 q)) (file_cases_lem s)

-- The reader tells each refusal exactly where it is due, and done exactly where none is.
pub read_told_lem : (s arcs mapping : List ℕ) → ToldExactly (read_cases s arcs mapping) (file_row s arcs mapping).told
read_told_lem s arcs mapping = told_exactly (read_cases s arcs mapping) (read_exact s arcs mapping) (file_row s arcs mapping).told (read_check s arcs mapping)
