use native.Mathlib.Omega.{arith}
use Rattle.decimals.proofs.Putting.{put_then}
use Rattle.texts.specs.Lines.{word_refused, refused_line}
use Rattle.texts.proofs.Composing.{put_bytes}
use Rattle.texts.proofs.lines.put_refused_line.Goals as goal

pub returns : goal.returns
unfolding refused_line
returns c = put_then (put_bytes _ _ word_refused _ _ c.copy_from_slice.ensures.after (omega arith) (omega arith)) c.put_three.ensures
