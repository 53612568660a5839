-- Each refusal of forward exactly where it is due, and done exactly where none is; 12 where R does not satisfy the routing equation, and
-- so never where R is the best.
use Prim.Native.Nat.{ℕ, zero, suc}
use mathlib.Core.Path.{◌≡◌, refl, sym, ap, ◌∙◌}
use mathlib.Core.Bool.{Bool, true}
use mathlib.Core.List.{List, [], ◌∷◌}
use mathlib.Core.Logic.{◌↔◌}
use Rattle.refusals.specs.declared.Refusal.TheVariants.{Size, Law, Equation}
use Rattle.refusals.specs.declared.Told.{Told}
use Rattle.refusals.specs.Told.{row}
use Rattle.refusals.specs.Checks.{unless, answer_told}
use Rattle.refusals.specs.Cases.{Case, DueIn, NoneDue, ToldExactly, check_of, refusal_numbers, first_cases}
use Rattle.refusals.proofs.OneToOne.{told_not_done}
use Rattle.refusals.proofs.First.{goes_on}
use Rattle.refusals.proofs.Cases.{AllExact, Chain, due_there, only_at, passes_exactly, passes_silent, told_exactly, no_more, ◌and◌}
use Rattle.algebra.specs.Step.{Solves}
use Rattle.weights.specs.declared.Component.{Component}
use Rattle.weights.specs.Sizes.{arc_sum}
use Rattle.weights.specs.Weights.{language}
use Rattle.weights.specs.Laws.{LawC}
use Rattle.weights.proofs.Checking.{few}
use Rattle.matrices.specs.Steps.{solves}
use Rattle.tables.proofs.Forwarded.{best_solves}
use Rattle.guards.specs.Checks.{nodes_case}
use Rattle.guards.specs.OnNetwork.{OnNetwork, components, arcs_on}
use Rattle.guards.proofs.Cases.{arcs_exact, length_exact, nodes_exact, routes_exact}
use Rattle.guards.proofs.Entering.{call_exact}
use Rattle.routes.proofs.Bridge.{entry_valid}
use Rattle.table_guards.specs.Checks.{law_c_case, mode_case}
use Rattle.table_guards.proofs.TableCases.{destinations_exact, law_c_exact, mapping_exact, mode_exact, solves_exact, table_length_exact}
use Rattle.forwarding.specs.Calls.{OnTables, on_tables, mode_meant, routes_on, forward_cases, forward_check}
use Rattle.forwarding.proofs.Order.{WellGiven, well_given, twelve_last}
use Rattle.forwarded.specs.Table.{EveryRouteBest}
use Rattle.std.specs.Prelude.{Ok, Err}

-- the first k of exact cases are exact
firsts_exact : (k : ℕ) (cases : List Case) → Chain cases → Chain (first_cases k cases)
firsts_exact zero cases e = tt
firsts_exact (suc k) [] e = tt
firsts_exact (suc k) (c ∷ cases) e = (e.0, λ s. firsts_exact k cases (e.1 s))

-- m 0 is told as a mode that does not fit
pub no_destinations : (N : OnNetwork) (mode : ℕ) (r mapping f : List ℕ) → (nodes_case N.n).check ≡ Ok tt → answer_told (forward_check (on_tables N 0 mode r mapping) f) ≡ row 3 3 0
no_destinations N mode r mapping f e = ap answer_told (goes_on {d = Err (Size 3 0)} e refl)

module _ (T : OnTables) (f : List ℕ) where
  open T use {network, m, routes, mapping}
  open network use {n, arcs}

  abbrev cs : List Component
  cs = components network

  abbrev answer : Told
  answer = answer_told (forward_check T f)

  forward_exact : AllExact (forward_cases T f)
  forward_exact =
      call_exact network.language (nodes_exact n and destinations_exact m and mode_exact cs m T.mode and no_more)
      (length_exact 1 n arcs and length_exact 2 n routes and table_length_exact 3 n m mapping and table_length_exact 4 n m f and no_more)
      (λ none sound. law_c_exact cs m T.mode sound ((passes_silent (mode_case cs m T.mode) (mode_exact cs m T.mode)).1 none.1.1.0)
      and arcs_exact cs n arcs
      and routes_exact cs n routes
      and mapping_exact (mode_meant T) cs n m mapping
      and solves_exact cs n arcs routes
      and no_more)

  -- 01's order
  pub forward_numbers : refusal_numbers (forward_cases T f) ≡ 3 ∷ 3 ∷ 3 ∷ 5 ∷ 4 ∷ 9 ∷ 9 ∷ 9 ∷ 9 ∷ 10 ∷ 10 ∷ 10 ∷ 6 ∷ 6 ∷ 6 ∷ 12 ∷ []
  forward_numbers = refl

  pub forward_told : ToldExactly (forward_cases T f) answer
  forward_told = told_exactly (forward_cases T f) forward_exact answer refl

  -- 10 3 0 exactly where nothing is due in the eleven cases before it, the mode is 2, hot, and law C fails over all weights.
  pub hot_refused : (answer ≡ row 10 3 0) ↔ (NoneDue (first_cases 11 (forward_cases T f)) × (T.mode ≡ 2) × (LawC cs → ⊥))
  hot_refused =
      let only = only_at 11 (forward_cases T f) (Law 3 0) (λ place. refl) in
      (λ e. there (only.0 ((forward_told.refused (Law 3 0)).0 e)), λ (u, h, g). (forward_told.refused (Law 3 0)).1 (only.1 (u, (0, refl, (refl, h, g)))))
    where
      there : NoneDue (first_cases 11 (forward_cases T f)) × DueIn (law_c_case T.mode (mode_meant T) cs) (Law 3 0) → NoneDue (first_cases 11 (forward_cases T f)) × (T.mode ≡ 2) × (LawC cs → ⊥)
      there (u, (k, q, (z, h, g))) = (u, h, g)

  -- 12 2 0 exactly where nothing is due in the fifteen cases before it and R does not satisfy R = (A join R) best fresh.
  pub equation_refused : (answer ≡ row 12 2 0) ↔ (NoneDue (first_cases 15 (forward_cases T f)) × (Solves (language cs) n (arcs_on network) (routes_on T) → ⊥))
  equation_refused =
      let only = only_at 15 (forward_cases T f) (Equation 2 0) (λ place. refl) in
      let there = due_there {P = Solves (language cs) n (arcs_on network) (routes_on T)} (Equation 2) 0 in
      (λ e. let h = only.0 ((forward_told.refused (Equation 2 0)).0 e) in (h.0, there.0 h.1), λ (u, g). (forward_told.refused (Equation 2 0)).1 (only.1 (u, there.1 g)))

  -- Where R holds the best weights and nothing is due in the fifteen cases before 12, the call is done ..
  pub best_done : EveryRouteBest network routes → NoneDue (first_cases 15 (forward_cases T f)) → forward_check T f ≡ Ok tt
  best_done b none = twelve_last T f ∙ goes_on passed (ap (λ (x : Bool). unless x (Equation 2 0)) solved)
    where
      passed : check_of (first_cases 15 (forward_cases T f)) ≡ Ok tt
      passed = (passes_exactly (first_cases 15 (forward_cases T f)) (record { chain = firsts_exact 15 (forward_cases T f) forward_exact.chain })).1 none

      given : WellGiven T f
      given = well_given T f passed

      solved : solves cs n (arcs_on network) (routes_on T) ≡ true
      solved = best_solves cs given.sound given.law_d_holds given.law_u_holds n (arcs_on network) (routes_on T) (entry_valid arc_sum cs n arcs (few network.language) given.formed.in_arcs) b

  -- .. and so 12 is never given.
  pub best_never_twelve : EveryRouteBest network routes → answer ≡ row 12 2 0 → ⊥
  best_never_twelve b e = let g = equation_refused.0 e in told_not_done (Equation 2 0) (sym e ∙ ap answer_told (best_done b g.0))
