-- What is known once the checks of a handover have passed. It joins the code to Calls; nothing here has to be believed.
use Rattle.std.specs.Prelude.{ℕ, ◌<◌, ◌≡◌, List, Result, Ok, Err}
use Rattle.weights.specs.declared.PerPlace.{PerPlace}
use Rattle.weights.specs.declared.Component.{Component}
use Rattle.weights.specs.Languages.{places_of}
use Rattle.matrices.specs.Buffers.{Square}
use Rattle.matrices.specs.Steps.{GivenArcs}
use Rattle.handover.specs.Calls.{handover_check}
use Rattle.guards.specs.OnNetwork.{OnNetwork}
use Rattle.guards.specs.Entrance.{Placed}
use Rattle.refusals.specs.declared.Refusal.{Refusal}

-- what is known once every check has passed
pub record HandoverChecked (N : OnNetwork) (standing newer : List ℕ) (i : ℕ) (p : PerPlace Component) : Type 0 where
  pub passes : handover_check N standing newer i ≡ Ok tt
  pub in_places : Placed N.language p
  pub arcs : GivenArcs (places_of p) N.n N.arcs
  pub new_square : Square N.n newer
  pub standing_square : Square N.n standing
  pub node : i < N.n

-- what the checks of a handover give: the places, and what is known then, or the first refusal
abbrev pub HandoverReady : OnNetwork → List ℕ → List ℕ → ℕ → Result (PerPlace Component) Refusal → Type 0
HandoverReady N standing newer i (Ok p) = HandoverChecked N standing newer i p
HandoverReady N standing newer i (Err x) = handover_check N standing newer i ≡ Err x
