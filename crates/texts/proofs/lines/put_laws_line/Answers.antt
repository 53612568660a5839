use native.Mathlib.Omega.{arith}
use Rattle.decimals.proofs.Putting.{put_then}
use Rattle.texts.specs.Lines.{word_laws, laws_line}
use Rattle.texts.proofs.Composing.{put_bytes}
use Rattle.texts.proofs.lines.put_laws_line.Goals as goal

pub returns : goal.returns
unfolding laws_line
returns c = put_then (put_bytes _ _ word_laws _ _ c.copy_from_slice.ensures.after (omega arith) (omega arith)) c.put_three.ensures
