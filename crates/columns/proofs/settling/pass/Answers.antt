use mathlib.Core.Path.{refl, sym, ◌∙◌}
use native.Mathlib.Omega.{arith}
use Rattle.weights.proofs.Ordering.{clash}
use Rattle.matrices.proofs.Entries.{row_whole}
use Rattle.columns.proofs.Passes.{passing_none, passing_held, passing_more}
use Rattle.columns.proofs.settling.pass.Goals as goal
use Rattle.columns.proofs.settling.pass.Goals.{then-put, else-put}

pub loop-i-init : goal.loop-i-init
loop-i-init c = (passing_none c.args.p c.args.n _ _ _ (row_whole c.args.n _ c.requires.1.room), λ _. refl)

pub renew-w-requires : goal.renew-w-requires
renew-w-requires c = (c.requires.0, passing_held c.args.p c.args.n c.args.a.now c.requires.0 c.args.j c.args.entries.now c.requires.1 c.loop-i.i c.loop-i.entries (omega arith) c.loop-i.invariant.0, c.loop-i-test.true)

pub loop-i-preserved : goal.loop-i-preserved
loop-i-preserved c = let q = c.put.ensures in (
  passing_more c.args.p c.args.n c.args.a.now c.requires.0 c.args.j c.args.entries.now c.requires.1 c.loop-i.i c.loop-i.entries _ _ c.loop-i-test.true c.loop-i.invariant.0
      c.renew-w.ensures q.entries_after,
  λ e. elim c.if-put.branch [ then-put w ↦ clash c.if-put.changed w.changed-is e | else-put w ↦ q.entries_unchanged w.if-put.false ∙ c.loop-i.invariant.1 (sym w.changed-is ∙ e) ],
)
