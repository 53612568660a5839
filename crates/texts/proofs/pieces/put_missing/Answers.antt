use native.Mathlib.Omega.{arith}
use Rattle.texts.specs.Lines.{missing}
use Rattle.texts.proofs.Composing.{put_bytes}
use Rattle.texts.proofs.pieces.put_missing.Goals as goal

pub returns : goal.returns
returns c = put_bytes _ _ missing _ _ c.copy_from_slice.ensures.after (omega arith) (omega arith)
