use Rattle.weights.specs.Values.{weight_of}
use Rattle.texts.specs.Parts.{first_values}
use Rattle.texts.proofs.Composing.{put_route}
use Rattle.texts.proofs.lines.put_route_line.Goals as goal

pub returns : goal.returns
returns c = put_route c.args.i c.args.j (first_values c.args.count (weight_of c.args.w)) c.put_letter-two.ensures c.put_weight-end.ensures
