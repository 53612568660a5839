-- A language with sound limits and the laws D and U is a lawful algebra, so it meets demand 3.
use Prim.Native.Nat.{ℕ}
use mathlib.Core.Path.{◌≡◌, refl}
use mathlib.Core.Bool.{true, false}
use mathlib.Core.List.{List}
use Rattle.algebra.specs.Algebra.{order, Lawful}
use Rattle.algebra.specs.Order.{Ordered}
use Rattle.algebra.specs.Path.{Matrix, ValidMatrix}
use Rattle.algebra.specs.Step.{Step}
use Rattle.algebra.specs.Demand.{Demand3}
use Rattle.algebra.proofs.Demands.{demand_3}
use Rattle.weights.specs.declared.Component.{Component}
use Rattle.weights.specs.Weights.{Weight, none, route, Sound, better, join, language}
use Rattle.weights.specs.Laws.{LawD, LawU, test_d, test_u}
use Rattle.weights.proofs.Ordering.{irrefl, asym, antisym, no_worse_trans, join_comm, join_assoc, join_unit, join_valid, unit_valid}
use Rattle.weights.proofs.Decided.{monotone, u_holds, d_exact, u_exact}

pub ordered : (cs : List Component) → Ordered (order (language cs))
ordered cs = record {
  self = λ x v. irrefl cs x;
  chain = λ x y z vx vy vz. no_worse_trans cs x y z vx vy vz;
  asym = λ x y vx vy. asym cs y x;
  antisym = λ x y vx vy. antisym cs x y vx vy;
}

worst_none : (cs : List Component) (x : Weight) → better cs none x ≡ false
worst_none cs x = refl

absorbs_none : (cs : List Component) (x : Weight) → join cs x none ≡ none
absorbs_none cs none = refl
absorbs_none cs (route xs) = refl

-- by the tests
pub lawful : (cs : List Component) → Sound cs → test_d cs ≡ true → test_u cs ≡ true → Lawful (language cs)
lawful cs s d u = record {
  ordered = ordered cs;
  unit_valid = unit_valid cs s;
  none_valid = tt;
  join_valid = join_valid cs;
  worst = λ x v. worst_none cs x;
  commutes = λ x y vx vy. join_comm cs x y;
  associates = λ x y z vx vy vz. join_assoc cs x y z;
  neutral = join_unit cs;
  absorbs = λ x v. absorbs_none cs x;
  law_d_holds = monotone cs d;
  law_u_holds = u_holds cs u;
}

-- by the laws themselves, over all weights
pub lawful_by_laws : (cs : List Component) → Sound cs → LawD cs → LawU cs → Lawful (language cs)
lawful_by_laws cs s d u = lawful cs s ((d_exact cs s).1 d) ((u_exact cs s).1 u)

-- Demand 3 of a language: one network of n nodes whose arcs are weights of the language, and any steps from fresh.
pub language_demand_3 : (cs : List Component) → Sound cs → LawD cs → LawU cs → (n : ℕ) (A : Matrix (language cs)) → ValidMatrix (language cs) n A → (steps : List Step) → Demand3 (language cs) n A steps
language_demand_3 cs s d u n A v steps = demand_3 (record { 𝓐 = language cs; 𝓛 = lawful_by_laws cs s d u; n = n; A = A; arcs_valid = v }) steps
