-- The check of a language: what it refuses, and that what passes has sound limits.
use Prim.Native.Nat.{ℕ, zero, suc, ◌≤◌, ◌<◌}
use mathlib.Core.Path.{◌≡◌, refl, sym, ap, ◌∙◌}
use mathlib.Core.Bool.{Bool, true, false, cond, ◌&&◌, and-false}
use mathlib.Core.List.{List, [], ◌∷◌}
use mathlib.Core.Logic.{◌↔◌}
use native.Mathlib.Omega.{arith}
use borrow.Author.Tests.{lt-leb, le-leb, leb-true, lt-ltb}
use lib.Dec.{leb, ltb}
use lib.ListN.{length, take, length-take}
use Rattle.refusals.specs.declared.Refusal.TheVariants.{BadComponent, BadCount}
use Rattle.refusals.specs.Checks.{unless, Check}
use Rattle.refusals.proofs.First.{passed_not, or_passed, first_passes}
use Rattle.weights.specs.declared.Component.{Component}
use Rattle.weights.specs.declared.Component.TheVariants.{Dist, Width, Class, Gain}
use Rattle.weights.specs.declared.Language.{Language}
use Rattle.weights.specs.declared.PerPlace.{PerPlace}
use Rattle.weights.specs.Sizes.{places}
use Rattle.weights.specs.Weights.{Sound, SoundLimit}
use Rattle.weights.specs.Languages.{components_of, count_case, limit_case, sound_limit, limits_from, padded, places_of, language_check}
use Rattle.std.specs.Prelude.{Ok, Err}

-- ---- the count

pub count_low : (l : Language) → l.count < 1 → language_check l ≡ Err (BadCount 0 0)
count_low l h = rw (lt-leb 1 l.count h)

pub count_high : (l : Language) → places < l.count → language_check l ≡ Err (BadCount 0 0)
count_high l h = rw (lt-leb l.count places h, and-false)

pub count_in : (l : Language) → 1 ≤ l.count → l.count ≤ places → language_check l ≡ (limit_case l).check
count_in l h k = rw (le-leb 1 l.count h, le-leb l.count places k) (or_passed (limit_case l).check)

-- ---- the limits

sound_test : (c : Component) → sound_limit c ≡ true → SoundLimit c
sound_test Dist e = tt
sound_test (Width w) e = leb-true 1 w e
sound_test (Class k) e = tt
sound_test Gain e = tt

test_sound : (c : Component) → SoundLimit c → sound_limit c ≡ true
test_sound Dist s = refl
test_sound (Width w) s = le-leb 1 w s
test_sound (Class k) s = refl
test_sound Gain s = refl

limits_sound : (i : ℕ) (cs : List Component) → limits_from i cs ≡ Ok tt → Sound cs
limits_sound i [] e = tt
limits_sound i (c ∷ cs) e = go (sound_limit c) refl e (limits_sound (suc i) cs)
  where
    go : (b : Bool) → sound_limit c ≡ b → cond b (limits_from (suc i) cs) (Err (BadComponent 0 i)) ≡ Ok tt → (limits_from (suc i) cs ≡ Ok tt → Sound cs) → SoundLimit c × Sound cs
    go true p q ih = (sound_test c p, ih q)
    go false p q ih = absurd (passed_not (BadComponent 0 i) (sym q))

sound_limits : (i : ℕ) (cs : List Component) → Sound cs → limits_from i cs ≡ Ok tt
sound_limits i [] s = refl
sound_limits i (c ∷ cs) s = rw (test_sound c s.0) (sound_limits (suc i) cs s.1)

-- exactly the lists with sound limits pass check 4
pub limits_exact : (cs : List Component) → (limits_from 0 cs ≡ Ok tt) ↔ Sound cs
limits_exact cs = (limits_sound 0 cs, sound_limits 0 cs)

-- class 0 in the unused places passes
pub limits_pad : (n i : ℕ) (cs : List Component) → length cs ≤ n → limits_from i (padded n cs) ≡ limits_from i cs
limits_pad zero i [] h = refl
limits_pad zero i (c ∷ cs) h = absurd (omega arith)
limits_pad (suc n) i [] h = limits_pad n (suc i) [] (omega arith)
limits_pad (suc n) i (c ∷ cs) h = ap (λ (k : Check). cond (sound_limit c) k (Err (BadComponent 0 i))) (limits_pad n (suc i) cs (omega arith))

-- ---- the places

-- a language has no more components than places
pub few : (l : Language) → length (components_of l) ≤ places
few l = rw (length-take l.count (l.first ∷ l.second ∷ l.third ∷ l.fourth ∷ [])) (omega arith)

abbrev place_at : ℕ → ℕ → Component → Component
place_at n i c = cond (ltb i n) c (Class 0)

pub placed_is : (n : ℕ) (a b c d : Component) → place_at n 0 a ∷ place_at n 1 b ∷ place_at n 2 c ∷ place_at n 3 d ∷ [] ≡ padded places (take n (a ∷ b ∷ c ∷ d ∷ []))
placed_is zero a b c d = refl
placed_is (suc zero) a b c d = refl
placed_is (suc (suc zero)) a b c d = refl
placed_is (suc (suc (suc zero))) a b c d = refl
placed_is (suc (suc (suc (suc n)))) a b c d =
    rw (lt-ltb 0 (suc (suc (suc (suc n)))) (omega arith), lt-ltb 1 (suc (suc (suc (suc n)))) (omega arith), lt-ltb 2 (suc (suc (suc (suc n)))) (omega arith), lt-ltb 3 (suc (suc (suc (suc n)))) (omega arith))

-- the check of the places is the check of the components
pub places_check : (l : Language) (p : PerPlace Component) → 1 ≤ l.count → l.count ≤ places → places_of p ≡ padded places (components_of l) → language_check l ≡ limits_from 0 (places_of p)
places_check l p h k e = count_in l h k ∙ sym (limits_pad places 0 (components_of l) (few l)) ∙ ap (limits_from 0) (sym e)

pub bad_first : (p : PerPlace Component) → sound_limit p.first ≡ false → limits_from 0 (places_of p) ≡ Err (BadComponent 0 0)
bad_first p e = rw e

pub bad_second : (p : PerPlace Component) → sound_limit p.first ≡ true → sound_limit p.second ≡ false → limits_from 0 (places_of p) ≡ Err (BadComponent 0 1)
bad_second p e f = rw (e, f)

pub bad_third : (p : PerPlace Component) → sound_limit p.first ≡ true → sound_limit p.second ≡ true → sound_limit p.third ≡ false → limits_from 0 (places_of p) ≡ Err (BadComponent 0 2)
bad_third p e f g = rw (e, f, g)

pub bad_fourth : (p : PerPlace Component) → sound_limit p.first ≡ true → sound_limit p.second ≡ true → sound_limit p.third ≡ true → sound_limit p.fourth ≡ false → limits_from 0 (places_of p) ≡ Err (BadComponent 0 3)
bad_fourth p e f g h = rw (e, f, g, h)

pub bad_none : (p : PerPlace Component) → sound_limit p.first ≡ true → sound_limit p.second ≡ true → sound_limit p.third ≡ true → sound_limit p.fourth ≡ true → limits_from 0 (places_of p) ≡ Ok tt
bad_none p e f g h = rw (e, f, g, h)

-- a language that passes has sound limits
pub check_sound : (l : Language) → language_check l ≡ Ok tt → Sound (components_of l)
check_sound l e = limits_sound 0 (components_of l) (first_passes ((count_case l).check ∷ (limit_case l).check ∷ []) e).1.0

-- .. and a count of 1 to 4
pub sound_count : (l : Language) → language_check l ≡ Ok tt → (1 ≤ l.count) × (l.count ≤ places) × Sound (components_of l)
sound_count l e = go (leb 1 l.count) (leb l.count places) refl refl (first_passes ((count_case l).check ∷ (limit_case l).check ∷ []) e).0
  where
    go : (a b : Bool) → leb 1 l.count ≡ a → leb l.count places ≡ b → unless (a && b) (BadCount 0 0) ≡ Ok tt → (1 ≤ l.count) × (l.count ≤ places) × Sound (components_of l)
    go true true p q h = (leb-true 1 l.count p, leb-true l.count places q, check_sound l e)
    go true false p q h = absurd (passed_not (BadCount 0 0) (sym h))
    go false b p q h = absurd (passed_not (BadCount 0 0) (sym h))
