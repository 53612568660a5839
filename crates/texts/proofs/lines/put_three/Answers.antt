use Rattle.texts.proofs.Composing.{put_three}
use Rattle.texts.proofs.lines.put_three.Goals as goal

pub returns : goal.returns
returns c = put_three c.args.x c.args.y c.args.z c.put_field-one.ensures c.put_field-two.ensures c.put_field-end.ensures
