-- Unused places count for nothing: width 9 alone, with dist, gain and width 0 after it, has D and U, breaks C, and is not refused.
use mathlib.Core.Path.{◌≡◌, refl}
use mathlib.Core.Bool.{true, false}
use mathlib.Core.List.{[], ◌∷◌}
use Rattle.refusals.specs.Told.{done}
use Rattle.weights.specs.declared.Component.TheVariants.{Dist, Width, Gain}
use Rattle.weights.specs.declared.Language.{Language}
use Rattle.laws.specs.Report.{report, no_words}

abbrev pub width_alone : Language
width_alone = record { count = 1; first = Width 9; second = Dist; third = Gain; fourth = Width 0 }

pub unused_places : ((report width_alone).told ≡ done) × ((report width_alone).law_d.held ≡ true) × ((report width_alone).law_u.held ≡ true)
    × ((report width_alone).law_c.held ≡ false) × ((report width_alone).law_c.s ≡ 1 ∷ 0 ∷ 0 ∷ 0 ∷ []) × ((report width_alone).law_c.x ≡ 9 ∷ 0 ∷ 0 ∷ 0 ∷ []) × ((report width_alone).law_c.y ≡ 1 ∷ 0 ∷ 0 ∷ 0 ∷ []) × ((report width_alone).law_d.x ≡ no_words)
unused_places = (refl, refl, refl, refl, refl, refl, refl, refl)
