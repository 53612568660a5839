use Rattle.modes.specs.Entries.{entry_of}
use Rattle.texts.specs.Parts.{first_of_entry}
use Rattle.texts.proofs.Composing.{put_entry}
use Rattle.texts.proofs.lines.put_entry_line.Goals as goal

pub returns : goal.returns
returns c = put_entry c.args.mode c.args.i c.args.d (first_of_entry c.args.count (entry_of c.args.e)) c.put_letter-two.ensures c.put_entry-end.ensures
