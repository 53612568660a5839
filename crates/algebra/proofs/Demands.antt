-- Every lawful algebra meets demand 3.
use mathlib.Core.Path.{◌≡◌, sym, ap}
use mathlib.Core.Logic.{inl, inr}
use mathlib.Core.List.{List, [], ◌∷◌, ◌++◌}
use Rattle.algebra.specs.Path.{Mem}
use Rattle.algebra.specs.Step.{Step, settle}
use Rattle.algebra.specs.Demand.{Demand3}
use Rattle.algebra.specs.Network.{Network}
use Rattle.algebra.proofs.Reach.{never_better, never_worse, settled_best, swept_best, stored_held}

-- what stands in a list splits it
pub mem_split : {A : Type 0} (a : A) (l : List A) → Mem a l → (s : List A) × (t : List A) × (l ≡ s ++ a ∷ t)
mem_split a [] m = absurd m
mem_split a (b ∷ l) (inl e) = ([], l, ap (◌∷ l) (sym e))
mem_split a (b ∷ l) (inr m) = let (s, t, e) = mem_split a l m in (b ∷ s, t, ap (b ∷◌) e)

pub demand_3 : (N : Network) (steps : List Step) → Demand3 N.𝓐 N.n N.A steps
demand_3 N steps = record {
  never_better = never_better N steps;
  never_worse = λ s. never_worse N steps (s ∷ []);
  settled = λ j m. let (s, t, e) = mem_split (settle j) steps m in rw e (settled_best N s t j);
  swept = λ m l t. swept_best N m steps l t;
  stored = stored_held N steps;
}
