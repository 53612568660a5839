use Rattle.std.proofs.Common.{◌*◌, sym, ◌∙◌, arith}
use Rattle.weights.specs.Sizes.{weight_words}
use Rattle.weights.specs.Languages.{places_of}
use Rattle.matrices.specs.Buffers.{words_at}
use Rattle.matrices.proofs.Malformed.{first_good, first_bad, first_none, read_good, read_bad}
use Rattle.matrices.proofs.checks.first_malformed.Goals as goal

pub returns-then-is_none : goal.returns-then-is_none
returns-then-is_none c = sym (c.loop-e.invariant.1 ∙ first_bad _ _ _ c.loop-e.e _ (omega arith)
    (read_bad c.args.cap (places_of c.args.p) (words_at c.args.s.now (c.loop-e.e * weight_words)) _ c.read_at.ensures c.if-is_none.ensures))

pub loop-e-preserved : goal.loop-e-preserved
loop-e-preserved c = (
  omega arith,
  c.loop-e.invariant.1 ∙ first_good _ _ _ c.loop-e.e _ (omega arith)
      (read_good c.args.cap (places_of c.args.p) (words_at c.args.s.now (c.loop-e.e * weight_words)) _ c.read_at.ensures c.if-is_none.ensures),
)

pub returns : goal.returns
returns c = sym (c.loop-e.invariant.1 ∙ first_none _ _ _ c.loop-e.e _ (omega arith))
