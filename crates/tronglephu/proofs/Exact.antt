-- The reader and the law report for C, which have a buffer more than their calls: each refusal exactly where it is due, and done
-- exactly where none is. The other functions tell what their calls tell.
use Prim.Native.Nat.{ℕ}
use mathlib.Core.Path.{◌≡◌, refl, sym, ap, ◌∙◌}
use mathlib.Core.List.{List, [], ◌∷◌}
use Rattle.refusals.specs.Checks.{answer_told, if_passed, Check}
use Rattle.std.specs.Result.{result_and}
use Rattle.refusals.specs.Cases.{checks_of, check_of, refusal_numbers, ToldExactly}
use Rattle.refusals.proofs.First.{first_passes, goes_on}
use Rattle.refusals.proofs.Cases.{told_exactly, no_more, append_exact, check_append, ◌and◌}
use Rattle.weights.specs.declared.Language.{Language}
use Rattle.weights.proofs.Cases.{count_exact, limit_exact}
use Rattle.door.specs.Problems.{problem_words}
use Rattle.door.specs.Reports.{report_words}
use Rattle.files.specs.Answers.{file_row}
use Rattle.files.specs.Cases.{file_cases}
use Rattle.files.proofs.Cases.{short_exact, file_exact, read_check}
use Rattle.tronglephu.specs.Calls.{room_cases, read_reply_cases, room_check, read_told, report_cases, report_check}
use Rattle.std.specs.Prelude.{Ok, Err}

module _ (file arcs mapping problem : List ℕ) where
  room_first : read_told file arcs mapping problem ≡ answer_told (check_of (read_reply_cases file arcs mapping problem))
  room_first = go (room_check arcs mapping problem) refl ∙ ap answer_told (sym (check_append (room_cases arcs mapping problem) (file_cases file)))
    where
      go : (c : Check) → room_check arcs mapping problem ≡ c → if_passed c (file_row file arcs mapping).told (answer_told c) ≡ answer_told (result_and c (check_of (file_cases file)))
      go (Ok tt) e =
          let h = first_passes (checks_of (room_cases arcs mapping problem)) e in
          read_check file arcs mapping ∙ ap answer_told (goes_on h.0 (goes_on h.1.0 refl))
      go (Err x) e = refl

  pub read_reply_told : ToldExactly (read_reply_cases file arcs mapping problem) (read_told file arcs mapping problem)
  read_reply_told =
      told_exactly (read_reply_cases file arcs mapping problem)
      (append_exact (short_exact 1 1024 arcs and short_exact 3 2560 mapping and short_exact 6 problem_words problem and no_more) (file_exact file))
      (read_told file arcs mapping problem) room_first

-- 5, 4, and then 9
pub laws_reply_numbers : (l : Language) (s : List ℕ) → refusal_numbers (report_cases l s) ≡ 5 ∷ 4 ∷ 9 ∷ []
laws_reply_numbers l s = refl

pub laws_reply_told : (l : Language) (s : List ℕ) → ToldExactly (report_cases l s) (answer_told (report_check l s))
laws_reply_told l s = told_exactly (report_cases l s) (count_exact l and limit_exact l and short_exact 6 report_words s and no_more) (answer_told (report_check l s)) refl
