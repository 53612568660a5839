use borrow.Author.Rules.{rules}
use Rattle.std.proofs.lemmas.Iterator.{serves_from_Range}
use Rattle.holding.proofs.Words.{rooms}
use Rattle.matrices.proofs.Every.{all_every}
use Rattle.holding.specs.Holding.{held_at}
use Rattle.holding.proofs.comparing.column_same.Goals as goal

pub returns : goal.returns
returns c = all_every (held_at c.args.n c.args.s.now c.args.entries.now c.args.j) c.args.n _ _ _ c.all.ensures.ran (λ x b q k. search rules)

pub all-requires-clause-callable : goal.all-requires-clause-callable
all-requires-clause-callable c =
    serves_from_Range (λ x q k. search rules) (λ i lo hi. let r = rooms c.args.n i c.args.j c.args.s.now c.args.entries.now c.requires.0 c.requires.2 hi c.requires.1 in search rules)
