-- The fresh call and the step call after it, way by way.
use Prim.Native.Nat.{ℕ, ◌-◌, ◌*◌, ◌≤◌}
use mathlib.Core.Path.{◌≡◌, sym, ap, ◌∙◌}
use mathlib.Core.List.{List}
use native.Mathlib.Nat.{mul-le-mul}
use native.Mathlib.Omega.{arith}
use lib.ListN.{length, take}
use lib.Seq.{length-take-le}
use Rattle.refusals.specs.declared.Refusal.{Refusal}
use Rattle.refusals.specs.declared.Told.{Told}
use Rattle.refusals.specs.Told.{told, done}
use Rattle.refusals.specs.Checks.{answer_told, if_passed, Check}
use Rattle.refusals.proofs.OneToOne.{told_not_done}
use Rattle.routes.specs.Calls.{fresh_check, fresh_left, StepsRow, steps_row, steps_left}
use Rattle.decimals.specs.Texts.{Put}
use Rattle.decimals.proofs.Putting.{put_front}
use Rattle.printing.specs.Work.{sweeps_list, routes_told, routes_left}
use Rattle.algebra.specs.Step.{fresh}
use Rattle.weights.specs.Weights.{language}
use Rattle.matrices.specs.Buffers.{matrix_words}
use Rattle.guards.specs.OnNetwork.{OnNetwork, components}
use Rattle.std.specs.Prelude.{Ok, Err}

-- ---- the list

pub sweeps_few : (n : ℕ) → n ≤ 16 → (n - 1) * n ≤ 240
sweeps_few n h = let few : n - 1 ≤ 15 = omega arith in mul-le-mul few h

module _ (n : ℕ) {s s' : List ℕ} (p : Put ((n - 1) * n) s 0 (sweeps_list n) s' ((n - 1) * n)) (fits : (n - 1) * n ≤ length s) where
  -- the part of the list that is lent is the sweeps
  pub sweeps_lent : take ((n - 1) * n) s' ≡ sweeps_list n
  sweeps_lent = put_front p (omega (arith, p.ends))

  pub sweeps_long : (n - 1) * n ≡ length (take ((n - 1) * n) s')
  sweeps_long = sym (length-take-le ((n - 1) * n) s' (omega (arith, p.long)))

-- ---- the calls

module _ (N : OnNetwork) (r : List ℕ) (t : Told) where
  open N use {n}

  -- the fresh call is refused
  pub fresh_refused : (r₁ : List ℕ) (x : Refusal) → told x ≡ answer_told (fresh_check N.language n r) → r₁ ≡ fresh_left N.language n r → t ≡ told x
      → (t ≡ routes_told N r) × (r₁ ≡ routes_left N r)
  unfolding routes_told routes_left
  fresh_refused r₁ x e q h = go (fresh_check N.language n r) e q
    where
      go : (k : Check) → told x ≡ answer_told k → r₁ ≡ if_passed k (matrix_words n (fresh (language (components N)))) r
          → (t ≡ if_passed k (steps_row N (fresh_left N.language n r) (sweeps_list n)).told (answer_told k)) × (r₁ ≡ if_passed k (steps_left N (fresh_left N.language n r) (sweeps_list n)) r)
      go (Ok _) e q = absurd (told_not_done x e)
      go (Err y) e q = (h ∙ e, q)

  -- the fresh call is done, and the steps are tried
  pub steps_tried : (r₁ r₂ list : List ℕ) (row : StepsRow) → done ≡ answer_told (fresh_check N.language n r) → r₁ ≡ fresh_left N.language n r → list ≡ sweeps_list n
      → row ≡ steps_row N r₁ list → r₂ ≡ steps_left N r₁ list → t ≡ row.told
      → (t ≡ routes_told N r) × (r₂ ≡ routes_left N r)
  unfolding routes_told routes_left
  steps_tried r₁ r₂ list row e q w u v h = go (fresh_check N.language n r) e
    where
      go : (k : Check) → done ≡ answer_told k
          → (t ≡ if_passed k (steps_row N (fresh_left N.language n r) (sweeps_list n)).told (answer_told k)) × (r₂ ≡ if_passed k (steps_left N (fresh_left N.language n r) (sweeps_list n)) r)
      go (Ok _) e = (
        h ∙ ap (λ (z : StepsRow). z.told) u
            ∙ ap (λ (z : List ℕ). (steps_row N z list).told) q
            ∙ ap (λ (z : List ℕ). (steps_row N (fresh_left N.language n r) z).told) w,
        v
            ∙ ap (λ (z : List ℕ). steps_left N z list) q
            ∙ ap (λ (z : List ℕ). steps_left N (fresh_left N.language n r) z) w,
      )
      go (Err y) e = absurd (told_not_done y (sym e))
