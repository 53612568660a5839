use Rattle.texts.proofs.Composing.{put_two}
use Rattle.texts.proofs.lines.put_letter.Goals as goal

pub returns : goal.returns
returns c = put_two c.args.letter c.args.x c.args.y c.put_field-one.ensures c.put_field.ensures
