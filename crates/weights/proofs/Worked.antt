-- P1 to P4 of 01, about the definitions alone.
use mathlib.Core.Path.{refl}
use mathlib.Core.List.{[], ◌∷◌}
use lib.Dec.{lit≤}
use Rattle.weights.specs.declared.Component.TheVariants.{Dist, Width, Gain}
use Rattle.weights.specs.Weights.{route}
use Rattle.weights.specs.Laws.{LawD, LawU, LawC, BreaksD, BreaksU, BreaksC}
use Rattle.weights.proofs.Decided.{d_holds, d_broken, u_holds, u_broken, c_holds, c_broken}

-- dist, width 9: laws D, U held, C broken
pub P1 : LawD (Dist ∷ Width 9 ∷ []) × LawU (Dist ∷ Width 9 ∷ []) × BreaksC (Dist ∷ Width 9 ∷ []) (route (0 ∷ 1 ∷ [])) (route (0 ∷ 9 ∷ [])) (route (0 ∷ 1 ∷ []))
P1 = (d_holds (Dist ∷ Width 9 ∷ []) refl, u_holds (Dist ∷ Width 9 ∷ []) refl, c_broken (Dist ∷ Width 9 ∷ []) (tt, (lit≤ tt, tt)) refl)

-- width 9, dist: D broken by s (1,0), x (9,1), y (1,0)
pub P2 : BreaksD (Width 9 ∷ Dist ∷ []) (route (1 ∷ 0 ∷ [])) (route (9 ∷ 1 ∷ [])) (route (1 ∷ 0 ∷ []))
P2 = d_broken (Width 9 ∷ Dist ∷ []) (lit≤ tt, (tt, tt)) refl

-- width 1, dist: all held
pub P3 : LawD (Width 1 ∷ Dist ∷ []) × LawU (Width 1 ∷ Dist ∷ []) × LawC (Width 1 ∷ Dist ∷ [])
P3 = (d_holds (Width 1 ∷ Dist ∷ []) refl, u_holds (Width 1 ∷ Dist ∷ []) refl, c_holds (Width 1 ∷ Dist ∷ []) refl)

-- gain: D, C held, U broken by 1
pub P4 : LawD (Gain ∷ []) × LawC (Gain ∷ []) × BreaksU (Gain ∷ []) (route (1 ∷ []))
P4 = (d_holds (Gain ∷ []) refl, c_holds (Gain ∷ []) refl, u_broken (Gain ∷ []) (tt, tt) refl)
