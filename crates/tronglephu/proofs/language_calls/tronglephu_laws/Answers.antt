use mathlib.Core.Path.{◌≡◌, sym, ap, ◌∙◌}
use mathlib.Core.List.{List, ◌++◌}
use Prim.Native.Nat.{ℕ}
use lib.ListN.{drop}
use Rattle.refusals.specs.Told.{done}
use Rattle.laws.specs.Report.{law_of}
use Rattle.door.specs.Replies.{reply_of}
use Rattle.door.specs.Reports.{report_words, laws_words}
use Rattle.door.proofs.Stored.{words_of_law, words_of_laws, held_of_laws}
use Rattle.tronglephu.proofs.Answers.{report_written}
use Rattle.tronglephu.proofs.language_calls.tronglephu_laws.Goals as goal

pub returns-else-report-lt-REPORT_WORDS : goal.returns-else-report-lt-REPORT_WORDS
returns-else-report-lt-REPORT_WORDS c =
    let l = c.language.result in
    let s = c.args.report.now in
    let e = c.in-Ok.ensures in
    let laws = c.in-Ok.field-0 in
    let d = words_of_law laws.d c.witness.result c.witness.ensures.s c.witness.ensures.x c.witness.ensures.y in
    let u = words_of_law laws.u c.witness-in-Ok.result c.witness-in-Ok.ensures.s c.witness-in-Ok.ensures.x c.witness-in-Ok.ensures.y in
    let k = words_of_law laws.c c.witness-in-Ok-2.result c.witness-in-Ok-2.ensures.s c.witness-in-Ok-2.ensures.x c.witness-in-Ok-2.ensures.y in
    let stored : c.put_laws.new.report ≡ laws_words (law_of laws.d) (law_of laws.u) (law_of laws.c) ++ drop report_words s =
    c.put_laws.ensures ∙ ap (λ (q : List ℕ). q ++ drop report_words s) (words_of_laws laws.d laws.u laws.c _ _ _ d u k) in
    let held = c.held_laws.ensures ∙ held_of_laws laws.d laws.u laws.c _ _ _ c.is_held.ensures c.is_held-in-Ok.ensures c.is_held-in-Ok-2.ensures in
    let w = report_written l s laws e _ c.if-report-lt-REPORT_WORDS.false stored in
    record {
      value = rw (sym c.language.ensures) (c.done.ensures ∙ ap (reply_of done) held ∙ w.0);
      report_after = rw (sym c.language.ensures) (w.1);
    }
