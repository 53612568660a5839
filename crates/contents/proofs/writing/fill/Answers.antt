use Rattle.contents.proofs.Storing.{stored_none, stored_more}
use Rattle.contents.proofs.writing.fill.Goals as goal

pub loop-e-init : goal.loop-e-init
loop-e-init c = let a = c.args in stored_none a.file.now a.h a.list a.first _ _ (rw c.size_of.ensures at c.clear.ensures)

pub loop-e-preserved : goal.loop-e-preserved
loop-e-preserved c = let a = c.args in let size = c.record_length-size.ensures.0 in
    stored_more a.file.now a.h a.list a.first c.loop-e.e _ c.loop-e.r _ _ c.loop-e.invariant (rw size)
    (rw size (c.requires.3 c.loop-e.e c.loop-e-test.true)) c.store.ensures
