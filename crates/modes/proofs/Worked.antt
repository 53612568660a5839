-- A language without law C in which hot breaks the forwarding equation.
use Prim.Native.Nat.{ℕ, zero, suc}
use mathlib.Core.Path.{◌≡◌, refl, sym, ◌∙◌}
use mathlib.Core.List.{List, [], ◌∷◌}
use native.Mathlib.Omega.{arith}
use Rattle.algebra.specs.Order.{pick, best_of}
use Rattle.algebra.specs.Path.{Matrix, ValidMatrix}
use Rattle.algebra.specs.Best.{best_among, best}
use Rattle.algebra.specs.Modes.{ValidTable, forwarded, onward}
use Rattle.algebra.proofs.Reach.{best_solves}
use Rattle.weights.specs.declared.Component.{Component}
use Rattle.weights.specs.declared.Component.TheVariants.{Width}
use Rattle.weights.specs.Weights.{none, route, language}
use Rattle.weights.proofs.Decided.{d_holds, u_holds, c_broken}
use Rattle.weights.proofs.Languages.{lawful}
use Rattle.modes.specs.declared.Mode.TheVariants.{Hot}
use Rattle.modes.specs.Entries.{Entry, empty, mapped, mode_of}
use Rattle.modes.specs.Hot.{HotBreaks}

-- ---- hot without law C: width 10, arcs 0 to 1 of 5 and 1 to 2 of 8; destination 0 at node 1 with t 9 and at node 2 with t 1

abbrev wide : List Component
wide = Width 10 ∷ []

abbrev line : Matrix (language wide)
line zero zero = none
line zero (suc zero) = route (5 ∷ [])
line zero (suc (suc j)) = none
line (suc zero) zero = none
line (suc zero) (suc zero) = none
line (suc zero) (suc (suc j)) = route (8 ∷ [])
line (suc (suc i)) j = none

abbrev ends : ℕ → ℕ → Entry
ends zero d = empty
ends (suc zero) d = mapped (10 ∷ []) 9
ends (suc (suc i)) d = mapped (10 ∷ []) 1

abbrev routes : Matrix (language wide)
routes = best (language wide) 3 line

line_valid : ValidMatrix (language wide) 3 line
line_valid zero zero h l = tt
line_valid zero (suc zero) h l = ((omega arith, omega arith), tt)
line_valid zero (suc (suc j)) h l = tt
line_valid (suc zero) zero h l = tt
line_valid (suc zero) (suc zero) h l = tt
line_valid (suc zero) (suc (suc j)) h l = ((omega arith, omega arith), tt)
line_valid (suc (suc i)) j h l = tt

ends_valid : ValidTable (language wide) (mode_of Hot wide) 3 1 ends
ends_valid zero d h l = tt
ends_valid (suc zero) d h l = (((omega arith, omega arith), tt), omega arith)
ends_valid (suc (suc i)) d h l = (((omega arith, omega arith), tt), omega arith)

-- both ways from 0 have width 5, and the smaller t wins
hot_sum : forwarded (language wide) (mode_of Hot wide) 3 routes ends 0 0 ≡ mapped (5 ∷ []) 1
unfolding forwarded best_of pick best best_among
hot_sum = refl

-- but node 1 keeps the wider way with t 9, so the equation would have t 9 at 0
hot_onward : onward (language wide) (mode_of Hot wide) 3 line ends (forwarded (language wide) (mode_of Hot wide) 3 routes ends) 0 0 ≡ mapped (5 ∷ []) 9
unfolding onward forwarded best_of pick best best_among
hot_onward = refl

-- D and U hold here, and hot fails for want of law C.
pub hot_needs_c : HotBreaks wide 3 1 line routes ends
hot_needs_c = record {
  law_d_holds = d_holds wide refl;
  law_u_holds = u_holds wide refl;
  no_law_c = (route (1 ∷ []), route (10 ∷ []), route (1 ∷ []), c_broken wide (omega arith, tt) refl);
  arcs_valid = line_valid;
  table_valid = ends_valid;
  solves = best_solves (record { 𝓐 = language wide; 𝓛 = lawful wide (omega arith, tt) refl refl; n = 3; A = line; arcs_valid = line_valid });
  broken = λ f. differ (sym hot_sum ∙ f 0 0 (omega arith) (omega arith) ∙ hot_onward);
}
  where
    differ : ¬ (mapped (5 ∷ []) 1 ≡ mapped (5 ∷ []) 9)
    differ e = let z : ◌≡◌ {A = ℕ} 1 9 = cc in omega arith
