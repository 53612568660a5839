use Rattle.weights.proofs.Buffers.{four_words_lem}
use Rattle.words.proofs.read_at.Goals as goal

pub returns : goal.returns
returns c = rw (four_words_lem c.args.s.now c.args.at c.requires) c.read_words.ensures
