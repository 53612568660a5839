-- What the checks after the entrance say and rely on, on the way to Calls. They join the code to Calls; nothing here has to be believed.
use Rattle.std.specs.Prelude.{ℕ, ◌≡◌, true, List, [], ◌∷◌}
use Rattle.refusals.specs.Checks.{first_of, Check}
use Rattle.weights.specs.declared.Component.{Component}
use Rattle.weights.specs.Weights.{Sound}
use Rattle.weights.specs.Laws.{test_d, test_u}
use Rattle.weights.specs.Languages.{SmallLimits}
use Rattle.matrices.specs.Buffers.{Square}
use Rattle.modes.specs.declared.Mode.{Mode}
use Rattle.tables.specs.Tables.{Sized}
use Rattle.guards.specs.Checks.{arcs_case, routes_case}
use Rattle.table_guards.specs.Checks.{law_c_check, mapping_case, solves_case}

-- the places of a sound and lawful language, and A, R and M of their lengths
pub record Measured (cs : List Component) (n m : ℕ) (a r mapping : List ℕ) : Type 0 where
  pub limits : SmallLimits 65535 cs
  pub sound : Sound cs
  pub law_d_holds : test_d cs ≡ true
  pub law_u_holds : test_u cs ≡ true
  pub in_arcs : Square n a
  pub in_routes : Square n r
  pub in_mapping : Sized n m mapping

-- 10 for C, 6 on A, R, M, 12
abbrev pub contents_check : Mode → List Component → ℕ → ℕ → List ℕ → List ℕ → List ℕ → Check
contents_check mode cs n m a r mapping = first_of (law_c_check mode cs ∷ (arcs_case cs n a).check ∷ (routes_case cs n r).check ∷ (mapping_case mode cs n m mapping).check ∷ (solves_case cs n a r).check ∷ [])
