use Rattle.std.proofs.Common.{◌≡◌, ℕ, ◌&&◌, eqb, List, [], ◌∷◌, refl, ap, ◌∙◌, rules, tests}
use Rattle.std.specs.List.{list_all}
use Rattle.std.proofs.lemmas.Iterator.{YieldsList-from_slice}
use Rattle.std.proofs.lemmas.Iterator.Search.{all_from_yields_List}
use Rattle.weights.specs.Sizes.{ones}
use Rattle.weights.specs.Words.{all_are}
use Rattle.words.proofs.all_ones.Goals as goal

all_are_is : (w : ℕ) (s : List ℕ) → list_all (λ x. eqb x w) s ≡ all_are w s
all_are_is w [] = refl
all_are_is w (x ∷ s) = ap (λ b. eqb x w && b) (all_are_is w s)

pub returns : goal.returns
returns c =
    let s = c.args.s.now in
    all_from_yields_List (λ x. eqb x ones) _ _ _ c.all.ensures.ran (YieldsList-from_slice s cc) (λ x b q k. search (rules, tests)) ∙ all_are_is ones s
