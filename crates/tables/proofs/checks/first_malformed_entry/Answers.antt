use Rattle.std.proofs.Common.{sym, ◌∙◌, arith}
use Rattle.weights.specs.Languages.{places_of}
use Rattle.matrices.proofs.Malformed.{first_good, first_bad, first_none}
use Rattle.tables.proofs.Rooms.{entry_good, entry_bad}
use Rattle.tables.proofs.checks.first_malformed_entry.Goals as goal

pub returns-then-is_none : goal.returns-then-is_none
returns-then-is_none c = let a = c.args in sym (c.loop-e.invariant.1
    ∙ first_bad _ _ _ c.loop-e.e _ (omega arith) (entry_bad a.mode a.cap (places_of a.p) a.s.now a.n a.m c.loop-e.e (omega arith) _ c.read_entry.ensures c.if-is_none.ensures))

pub loop-e-preserved : goal.loop-e-preserved
loop-e-preserved c = let a = c.args in (
  omega arith,
  c.loop-e.invariant.1 ∙ first_good _ _ _ c.loop-e.e _ (omega arith) (entry_good a.mode a.cap (places_of a.p) a.s.now a.n a.m c.loop-e.e (omega arith) _ c.read_entry.ensures c.if-is_none.ensures),
)

pub returns : goal.returns
returns c = sym (c.loop-e.invariant.1 ∙ first_none _ _ _ c.loop-e.e _ (omega arith))
