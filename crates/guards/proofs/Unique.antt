-- Two answers of a call's checks that meet one contract are equal: the places of one language, or one refusal.
use mathlib.Core.Path.{◌≡◌, sym, ap, ◌∙◌}
use Rattle.refusals.specs.declared.Refusal.{Refusal}
use Rattle.refusals.proofs.First.{passed_not, refused_one}
use Rattle.weights.specs.declared.Language.{Language}
use Rattle.weights.specs.declared.PerPlace.{PerPlace}
use Rattle.weights.specs.declared.Component.{Component}
use Rattle.weights.proofs.Unique.{places_one}
use Rattle.guards.specs.Entrance.{entrance_check, Placed, Enters}
use Rattle.refusals.specs.Checks.{Check}
use Rattle.std.specs.Prelude.{Result, Ok, Err}

-- whatever is said of an answer, where that gives the check's verdict and places of the language
pub one_ready : (l : Language) (c : Check) (Says : Result (PerPlace Component) Refusal → Type 0) → ((p : PerPlace Component) → Says (Ok p) → (c ≡ Ok tt) × Placed l p) → ((x : Refusal) → Says (Err x) → c ≡ Err x)
    → (x y : Result (PerPlace Component) Refusal) → Says x → Says y → x ≡ y
one_ready l c Says given refused (Ok p) (Ok q) h k = ap Ok (places_one p q ((given p h).1.placed ∙ sym (given q k).1.placed))
one_ready l c Says given refused (Ok p) (Err s) h k = absurd (passed_not s (sym (given p h).0 ∙ refused s k))
one_ready l c Says given refused (Err s) (Ok q) h k = absurd (passed_not s (sym (given q k).0 ∙ refused s h))
one_ready l c Says given refused (Err s) (Err t) h k = ap Err (refused_one (sym (refused s h) ∙ refused t k))

pub enters_one : (l : Language) (sizes lengths : Check) (x y : Result (PerPlace Component) Refusal) → Enters l sizes lengths x → Enters l sizes lengths y → x ≡ y
enters_one l sizes lengths = one_ready l (entrance_check l sizes lengths) (Enters l sizes lengths) (λ p o. (o.passes, o.in_places)) (λ x e. e)
