-- Why hot needs law C (01, "Forwarding and the next hop"): what it is for hot to fail where D and U hold.
-- To be believed: all of it. That it happens is the theorem `hot_needs_c` (proofs/Worked).
use Rattle.std.specs.Prelude.{ℕ, List}
use Rattle.algebra.specs.Path.{Matrix, ValidMatrix}
use Rattle.algebra.specs.Step.{Solves}
use Rattle.algebra.specs.Modes.{ValidTable, forwarded, Forwards}
use Rattle.weights.specs.declared.Component.{Component}
use Rattle.weights.specs.Weights.{Weight, language}
use Rattle.weights.specs.Laws.{LawD, LawU, BreaksC}
use Rattle.modes.specs.declared.Mode.TheVariants.{Hot}
use Rattle.modes.specs.Entries.{Entry, mode_of}

-- D and U hold and C is broken, R satisfies the routing equation, and F does not satisfy F = (A applied to F) best M.
pub record HotBreaks (cs : List Component) (n m : ℕ) (A R : Matrix (language cs)) (M : ℕ → ℕ → Entry) : Type 0 where
  pub law_d_holds : LawD cs
  pub law_u_holds : LawU cs
  pub no_law_c : (s : Weight) × (x : Weight) × (y : Weight) × BreaksC cs s x y
  pub arcs_valid : ValidMatrix (language cs) n A
  pub table_valid : ValidTable (language cs) (mode_of Hot cs) n m M
  pub solves : Solves (language cs) n A R
  pub broken : ¬ Forwards (language cs) (mode_of Hot cs) n m A M (forwarded (language cs) (mode_of Hot cs) n R M)
