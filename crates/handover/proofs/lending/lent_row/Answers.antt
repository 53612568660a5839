use mathlib.Core.Path.{◌∙◌}
use Rattle.handover.proofs.Rows.{empty_start}
use Rattle.handover.proofs.Answers.{row_refused, start_refused}
use Rattle.handover.proofs.lending.lent_row.Goals as goal

pub returns-in-Err-clause-words : goal.returns-in-Err-clause-words
returns-in-Err-clause-words c = let a = c.args in row_refused a.network.now a.standing.now a.newer.now a.i c.in-Err.field-0 c.in-Err.ensures

pub returns-in-Err-clause-place : goal.returns-in-Err-clause-place
returns-in-Err-clause-place c = let a = c.args in empty_start a.standing.ref_ptr ∙ start_refused a.network.now a.standing.now a.newer.now a.i a.standing.ref_ptr a.newer.ref_ptr c.in-Err.field-0 c.in-Err.ensures
