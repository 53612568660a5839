use Prim.Native.Nat.{ℕ}
use borrow.Author.Rules.{rules}
use mathlib.Core.List.{List}
use Rattle.weights.specs.declared.Component.{Component}
use Rattle.weights.specs.declared.PerPlace.{PerPlace}
use mathlib.Core.Path.{◌∙◌}
use Rattle.algebra.specs.Best.{best}
use Rattle.weights.specs.Sizes.{places}
use Rattle.weights.specs.Weights.{language}
use Rattle.weights.specs.Languages.{places_of}
use Rattle.matrices.specs.Buffers.{matrix_in}
use Rattle.matrices.specs.Steps.{Matrix}
use Rattle.matrices.proofs.Every.{all_every}
use Rattle.holding.specs.Holding.{column_has}
use Rattle.holding.proofs.Words.{all_words}
use Rattle.holding.proofs.comparing.all_best.Goals as goal

-- the best weights of an n x n matrix of arcs in a buffer
abbrev bests : PerPlace Component → ℕ → List ℕ → Matrix
bests p n a = best (language (places_of p)) n (matrix_in places n a)

pub returns : goal.returns
returns c =
    all_every (column_has c.args.n c.args.s.now (bests c.args.p c.args.n c.args.a.now)) c.args.n _ _ _ c.all.ensures.ran (λ x b q k. search rules)
    ∙ all_words c.args.n c.args.s.now c.requires.1 (bests c.args.p c.args.n c.args.a.now)
