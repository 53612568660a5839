-- The cases of a language, 5 and 4, are exact.
use mathlib.Core.Path.{◌≡◌, refl}
use mathlib.Core.Bool.{true}
use mathlib.Core.Logic.{◌↔◌}
use Rattle.refusals.specs.declared.Refusal.TheVariants.{BadComponent, BadCount}
use Rattle.refusals.specs.Cases.{Silent}
use Rattle.refusals.proofs.Tests.{both_exactly, leb_exactly}
use Rattle.refusals.proofs.Cases.{Exact, AllExact, unless_exact, first_exact, passes_silent, no_more, ◌and◌}
use Rattle.weights.specs.declared.Component.{Component}
use Rattle.weights.specs.declared.Component.TheVariants.{Dist, Width, Class, Gain}
use Rattle.weights.specs.declared.Language.{Language}
use Rattle.weights.specs.Sizes.{places}
use Rattle.weights.specs.Weights.{Sound, SoundLimit}
use Rattle.weights.specs.Languages.{components_of, sound_limit, count_case, limit_case, language_cases}
use Rattle.weights.proofs.Checking.{limits_exact}

pub count_exact : (l : Language) → Exact (count_case l)
count_exact l = unless_exact (BadCount 0) 0 (both_exactly (leb_exactly 1 l.count) (leb_exactly l.count places))

limit_exactly : (c : Component) → (sound_limit c ≡ true) ↔ SoundLimit c
limit_exactly Dist = (λ e. tt, λ s. refl)
limit_exactly (Width w) = leb_exactly 1 w
limit_exactly (Class k) = (λ e. tt, λ s. refl)
limit_exactly Gain = (λ e. tt, λ s. refl)

pub limit_exact : (l : Language) → Exact (limit_case l)
limit_exact l = first_exact sound_limit SoundLimit limit_exactly (BadComponent 0) (components_of l)

-- where 4 is not due, the limits are sound
pub limit_sound : (l : Language) → Silent (limit_case l) → Sound (components_of l)
limit_sound l s = (limits_exact (components_of l)).0 ((passes_silent (limit_case l) (limit_exact l)).1 s)

pub language_exact : (l : Language) → AllExact (language_cases l)
language_exact l = count_exact l and limit_exact l and no_more
