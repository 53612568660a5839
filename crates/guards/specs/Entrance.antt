-- What the entrance of a call gives: the places of a lawful language, or the first of 3, 5, 4, 9, 10.
-- It joins the code to the calls' cases; nothing here has to be believed.
use Rattle.std.specs.Prelude.{◌≡◌, true, cond, List, [], ◌∷◌, ℕ, leb, Result, Ok, Err}
use Rattle.std.specs.Result.{result_and}
use Rattle.weights.specs.declared.Component.{Component}
use Rattle.weights.specs.declared.Language.{Language}
use Rattle.weights.specs.declared.PerPlace.{PerPlace}
use Rattle.weights.specs.Sizes.{places}
use Rattle.weights.specs.Weights.{Sound}
use Rattle.weights.specs.Laws.{test_d, test_u}
use Rattle.weights.specs.Languages.{components_of, language_check, padded, places_of, SmallLimits}
use Rattle.guards.specs.Checks.{law_d_case, law_u_case, most_nodes, length_case}
use Rattle.refusals.specs.Cases.{check_of}
use Rattle.refusals.specs.Checks.{Check}
use Rattle.refusals.specs.declared.Refusal.{Refusal}

-- 9 on a matrix, where n is at most 16; else passed, since 3 is told
abbrev pub length_measured : ℕ → ℕ → List ℕ → Check
length_measured which n s = cond (leb n most_nodes) (length_case which n s).check (Ok tt)

-- 10: D, then U
abbrev pub laws_check : List Component → Check
laws_check cs = check_of (law_d_case cs ∷ law_u_case cs ∷ [])

-- 3, 5, 4, 9, 10, by what the call's own sizes and lengths give
abbrev pub entrance_check : Language → Check → Check → Check
entrance_check l sizes lengths = result_and sizes (result_and (language_check l) (result_and lengths (laws_check (components_of l))))

-- the places hold the language, sound and lawful
pub record Placed (l : Language) (p : PerPlace Component) : Type 0 where
  pub placed : places_of p ≡ padded places (components_of l)
  pub limits : SmallLimits 65535 (places_of p)
  pub sound : Sound (places_of p)
  pub law_d_holds : test_d (places_of p) ≡ true
  pub law_u_holds : test_u (places_of p) ≡ true

-- every check has passed
pub record Entered (l : Language) (sizes lengths : Check) (p : PerPlace Component) : Type 0 where
  pub sizes_pass : sizes ≡ Ok tt
  pub lengths_pass : lengths ≡ Ok tt
  pub passes : entrance_check l sizes lengths ≡ Ok tt
  pub in_places : Placed l p

-- what the entrance gives
abbrev pub Enters : Language → Check → Check → Result (PerPlace Component) Refusal → Type 0
Enters l sizes lengths (Ok p) = Entered l sizes lengths p
Enters l sizes lengths (Err x) = entrance_check l sizes lengths ≡ Err x
