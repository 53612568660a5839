use mathlib.Core.Path.{sym, ap, ◌∙◌}
use mathlib.Core.List.{[]}
use Rattle.weights.specs.Languages.{places_of}
use Rattle.routes.specs.Ready.{step_meant}
use Rattle.routes.proofs.Lists.{row_in_lem, settle_in, row_fits_lem, row_left_lem, settle_fits, settle_left_lem}
use Rattle.steps.proofs.one_step.Goals as goal

pub row_step-requires : goal.row_step-requires
row_step-requires c = (c.requires.0, row_in_lem c.args.n c.args.x _ c.requires.0.routes.square.few c.requires.1 (sym (ap step_meant c.in-Row.is) ∙ c.step_of.ensures))

pub settle-requires : goal.settle-requires
settle-requires c = (c.requires.0, settle_in c.args.n c.args.x _ c.requires.0.routes.square.few c.requires.1 (sym (ap step_meant c.in-Settle.is) ∙ c.step_of.ensures))

pub returns-in-Row : goal.returns-in-Row
returns-in-Row c =
    let is = sym (ap step_meant c.in-Row.is) ∙ c.step_of.ensures in
    record {
      value = row_fits_lem (places_of c.args.p) c.args.n c.args.a.now c.args.r.now [] _ is c.row_step.ensures.value;
      r_after = row_left_lem (places_of c.args.p) c.args.n c.args.a.now c.args.r.now _ _ is c.row_step.ensures.r_after;
    }

pub returns-in-Settle : goal.returns-in-Settle
returns-in-Settle c = let start = c.args in
    let is = (sym (ap step_meant c.in-Settle.is) ∙ c.step_of.ensures) in
    record { value = settle_fits (places_of start.p) start.n start.a.now start.r.now [] _ is; r_after = settle_left_lem (places_of start.p) start.n start.a.now start.r.now _ _ is c.settle.ensures }
