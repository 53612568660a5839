-- A call's cases in 01's order: in each, what the code checks and, in words, when it refuses. One list for a call gives its order, its
-- check, and what is promised of its answer.
-- To be believed: `tells` and `due` in each case, and `ToldExactly`. That a check refuses exactly where its case says is proved once for each kind of
-- case, beside it; that a call then tells exactly what is due is `told_exactly` (proofs/Cases).
use Rattle.std.specs.Prelude.{ℕ, zero, suc, ◌≡◌, ◌⊎◌, ◌↔◌, Bool, cond, List, [], ◌∷◌, Ok, Err}
use Rattle.refusals.specs.declared.Refusal.{Refusal}
use Rattle.refusals.specs.declared.Told.{Told}
use Rattle.refusals.specs.Told.{told, done}
use Rattle.refusals.specs.Checks.{unless, first_of, Check}

-- One case: the check that the code computes, the refusal that it tells at a place, and, in words, the places where that is due.
pub record Case : Type 1 where
  pub check : Check
  pub tells : ℕ → Refusal
  pub due : ℕ → Type 0

-- ---- two kinds of case

-- the refusal is due at this one place, unless P holds; the test is P's
abbrev pub due_unless : Bool → Type 0 → (ℕ → Refusal) → ℕ → Case
due_unless test P tells at = record { check = unless test (tells at); tells = tells; due = λ place. (place ≡ at) × (P → ⊥) }

-- item k of the list, counted from 0, is the first that is not so
abbrev pub FirstNot : {X : Type 0} → (X → Type 0) → ℕ → List X → Type 0
FirstNot So k [] = ⊥
FirstNot So zero (x ∷ xs) = So x → ⊥
FirstNot So (suc k) (x ∷ xs) = So x × FirstNot So k xs

-- the search of a list for it, counted from i
abbrev pub first_from : {X : Type 0} → (X → Bool) → (ℕ → Refusal) → ℕ → List X → Check
first_from test tells i [] = Ok tt
first_from test tells i (x ∷ xs) = cond (test x) (first_from test tells (suc i) xs) (Err (tells i))

-- the refusal is due at the first item that is not so; the test is So's
abbrev pub due_at_first : {X : Type 0} → (X → Bool) → (X → Type 0) → (ℕ → Refusal) → List X → Case
due_at_first test So tells xs = record { check = first_from test tells 0 xs; tells = tells; due = λ place. FirstNot So place xs }

-- ---- a list of cases

-- what the code checks, in order
abbrev pub checks_of : List Case → List Check
checks_of [] = []
checks_of (c ∷ cs) = c.check ∷ checks_of cs

-- .. and the first refusal of it
abbrev pub check_of : List Case → Check
check_of cases = first_of (checks_of cases)

-- 01's numbers of the cases, in order
abbrev pub refusal_numbers : List Case → List ℕ
refusal_numbers [] = []
refusal_numbers (c ∷ cs) = (told (c.tells 0)).number ∷ refusal_numbers cs

-- x is this case's refusal at a place where that is due
abbrev pub DueIn : Case → Refusal → Type 0
DueIn c x = (place : ℕ) × (x ≡ c.tells place) × c.due place

-- in this case nothing is due
abbrev pub Silent : Case → Type 0
Silent c = (place : ℕ) → c.due place → ⊥

-- in none of the cases is anything due
abbrev pub NoneDue : List Case → Type 0
NoneDue [] = Unit {0}
NoneDue (c ∷ cs) = Silent c × NoneDue cs

-- x is due in some case, and in none before it is anything
abbrev pub Due : List Case → Refusal → Type 0
Due [] x = ⊥
Due (c ∷ cs) x = DueIn c x ⊎ (Silent c × Due cs x)

-- the first k cases
abbrev pub first_cases : ℕ → List Case → List Case
first_cases zero cs = []
first_cases (suc k) [] = []
first_cases (suc k) (c ∷ cs) = c ∷ first_cases k cs

-- The answer tells each refusal exactly where it is due, and done exactly where none is.
pub record ToldExactly (cases : List Case) (answer : Told) : Type 0 where
  pub refused : (x : Refusal) → (answer ≡ told x) ↔ Due cases x
  pub passes : (answer ≡ done) ↔ NoneDue cases
