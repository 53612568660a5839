-- From what the inner functions say to the calls' own words: the answer's row and what the buffer holds.
use Prim.Native.Nat.{ℕ, ◌≤◌, ◌<◌}
use mathlib.Core.Path.{◌≡◌, sym, ap, ◌∙◌}
use mathlib.Core.Bool.{Bool, false}
use mathlib.Core.List.{List, [], ◌∷◌, map}
use lib.ListN.{length}
use borrow.Author.Tests.{lt-ltb, le-ltb}
use Rattle.refusals.specs.declared.Refusal.{Refusal}
use Rattle.refusals.specs.declared.Refusal.TheVariants.{Sum}
use Rattle.refusals.specs.Checks.{first_of, if_passed, answer_told, Check}
use Rattle.std.specs.Result.{result_and}
use Rattle.refusals.proofs.First.{or_passed, if_passed_lem, if_refused}
use Rattle.refusals.proofs.Cases.{check_append}
use Rattle.algebra.specs.Step.{fresh}
use Rattle.weights.specs.declared.Language.{Language}
use Rattle.weights.specs.declared.PerPlace.{PerPlace}
use Rattle.weights.specs.declared.Component.{Component}
use Rattle.weights.specs.Sizes.{places, arc_sum, matrix_sum}
use Rattle.weights.specs.Weights.{language}
use Rattle.weights.specs.Languages.{components_of, places_of}
use Rattle.weights.proofs.Checking.{few}
use Rattle.matrices.specs.Buffers.{matrix_words, matrix_in}
use Rattle.matrices.specs.Steps.{solves, Given}
use Rattle.guards.specs.Checks.{many_case, list_case}
use Rattle.guards.specs.OnNetwork.{OnNetwork, components, matrix_on, arcs_on}
use Rattle.guards.specs.Entrance.{Placed}
use Rattle.routes.specs.Calls.{fresh_check, fresh_left, step_of, steps_cases, steps_check, ran_of, count_of, sum_check, sum_case, StepsRow, steps_row, steps_left, steps_said, equation_check, EquationRow, equation_row, equation_said}
use Rattle.routes.specs.Ready.{run_left, run_done}
use Rattle.routes.proofs.Bridge.{buffer_goes, fresh_words, solves_go, run_bridge}
use Rattle.routes.proofs.Order.{rest_stops, rest_goes_on, placed_sound}
use Rattle.routes.proofs.Lists.{all_in, list_passed}
use Rattle.std.specs.Prelude.{Ok, Err}

-- ---- fresh

pub fresh_done : (l : Language) (n : ℕ) (p : PerPlace Component) (r left : List ℕ) → fresh_check l n r ≡ Ok tt → Placed l p → left ≡ matrix_words n (fresh (language (places_of p)))
    → (answer_told (Ok tt) ≡ answer_told (fresh_check l n r)) × (left ≡ fresh_left l n r)
fresh_done l n p r left e o q = (
  ap answer_told (sym e),
  q ∙ fresh_words (components_of l) p (few l) o.placed (placed_sound l p o) n [] ∙ sym (if_passed_lem (matrix_words n (fresh (language (components_of l)))) r e),
)

pub fresh_refused : (l : Language) (n : ℕ) (r : List ℕ) (x : Refusal) → fresh_check l n r ≡ Err x → (answer_told (Err x) ≡ answer_told (fresh_check l n r)) × (r ≡ fresh_left l n r)
fresh_refused l n r x e = (ap answer_told (sym e), sym (if_refused (matrix_words n (fresh (language (components_of l)))) r e))

-- ---- steps

-- the row by what the checks give: k of the m steps are done where they pass, and 11 is told where k is not m
abbrev pub row_by : Check → ℕ → ℕ → StepsRow
row_by c k m = record { told = answer_told (result_and c (sum_check k m)); done = if_passed c k 0 }

module _ (N : OnNetwork) (r list : List ℕ) where
  open N use {n, arcs}

  pub row_by_lem : {c : Check} → steps_check N r list ≡ c → steps_row N r list ≡ row_by c (count_of N r list) (length list)
  row_by_lem e =
      ap (λ (c : Check). record { told = answer_told c; done = if_passed (steps_check N r list) (count_of N r list) 0 })
      (check_append (steps_cases N r list) (sum_case N r list ∷ []) ∙ ap (result_and (steps_check N r list)) (or_passed (sum_case N r list).check))
      ∙ ap (λ (c : Check). row_by c (count_of N r list) (length list)) e

  refused : (x : Refusal) → steps_check N r list ≡ Err x → (steps_said (Err (record { refusal = x; done = 0 })) ≡ steps_row N r list) × (r ≡ steps_left N r list)
  refused x e = (sym (row_by_lem e), sym (if_refused (matrix_words n (ran_of N r list)) r e))

  pub steps_refused : (x : Refusal) → equation_check N r ≡ Err x → (steps_said (Err (record { refusal = x; done = 0 })) ≡ steps_row N r list) × (r ≡ steps_left N r list)
  steps_refused x e = refused x (rest_stops N r (many_case list ∷ list_case n list ∷ []) e)

  module _ (p : PerPlace Component) (e : equation_check N r ≡ Ok tt) where
    pub list_refused : (x : Refusal) → first_of ((many_case list).check ∷ (list_case n list).check ∷ []) ≡ Err x → (steps_said (Err (record { refusal = x; done = 0 })) ≡ steps_row N r list) × (r ≡ steps_left N r list)
    list_refused x q = refused x (rest_goes_on N r (many_case list ∷ list_case n list ∷ []) e q)

    module _ (o : Placed N.language p) (g : Given (places_of p) n arcs r) (q : first_of ((many_case list).check ∷ (list_case n list).check ∷ []) ≡ Ok tt) (k : ℕ) (left : List ℕ)
        (ek : k ≡ run_done (places_of p) n arcs r (map step_of list)) (el : left ≡ run_left (places_of p) n arcs r (map step_of list)) where
      passes : steps_check N r list ≡ Ok tt
      passes = rest_goes_on N r (many_case list ∷ list_case n list ∷ []) e q

      bridged : (run_done (places_of p) n arcs r (map step_of list) ≡ count_of N r list) × (run_left (places_of p) n arcs r (map step_of list) ≡ matrix_words n (ran_of N r list))
      bridged = run_bridge (components N) p (few N.language) o.placed (placed_sound N.language p o) n arcs
          (buffer_goes (components N) p (few N.language) o.placed (placed_sound N.language p o) n arcs arc_sum arcs g.arcs) (map step_of list) r (matrix_on N r) g
          (buffer_goes (components N) p (few N.language) o.placed (placed_sound N.language p o) n arcs matrix_sum r g.routes) (all_in n list g.arcs.square.few (list_passed n list q).1)

      stands : left ≡ steps_left N r list
      stands = el ∙ bridged.1 ∙ sym (if_passed_lem (matrix_words n (ran_of N r list)) r passes)

      row : row_by (Ok tt) k (length list) ≡ steps_row N r list
      row = ap (λ (m : ℕ). row_by (Ok tt) m (length list)) (ek ∙ bridged.0) ∙ sym (row_by_lem passes)

      pub steps_stopped : k < length list → (steps_said (Err (record { refusal = Sum 0 k; done = k })) ≡ steps_row N r list) × (left ≡ steps_left N r list)
      steps_stopped h = ((rw (lt-ltb k (length list) h) at row), stands)

      pub steps_done : length list ≤ k → (steps_said (Ok k) ≡ steps_row N r list) × (left ≡ steps_left N r list)
      steps_done h = ((rw (le-ltb k (length list) h) at row), stands)

-- ---- equation

-- the row by what the checks give
abbrev yes_by : Check → Bool → EquationRow
yes_by c b = record { told = answer_told c; yes = if_passed c b false }

module _ (N : OnNetwork) (r : List ℕ) where
  open N use {n, arcs}

  module _ (p : PerPlace Component) (e : equation_check N r ≡ Ok tt) (o : Placed N.language p) (g : Given (places_of p) n arcs r) {b : Bool} (q : b ≡ solves (places_of p) n (matrix_in places n arcs) (matrix_in places n r)) where
    pub equation_answers : equation_said (Ok b) ≡ equation_row N r
    equation_answers =
        ap (yes_by (Ok tt)) (q ∙ solves_go (components N) p (few N.language) o.placed (placed_sound N.language p o) n arcs (arcs_on N) (matrix_in places n arcs)
        (buffer_goes (components N) p (few N.language) o.placed (placed_sound N.language p o) n arcs arc_sum arcs g.arcs) (matrix_on N r) (matrix_in places n r)
        (buffer_goes (components N) p (few N.language) o.placed (placed_sound N.language p o) n arcs matrix_sum r g.routes))
        ∙ ap (λ (c : Check). yes_by c (solves (components N) n (arcs_on N) (matrix_on N r))) (sym e)
