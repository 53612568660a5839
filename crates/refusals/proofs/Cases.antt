-- Cases that are exact, and what a call tells that goes through a list of them: each refusal exactly where it is due, and done exactly
-- where none is.
use Prim.Native.Nat.{ℕ, zero, suc, ◌+◌}
use mathlib.Core.Path.{◌≡◌, refl, sym, ap, ◌∙◌}
use mathlib.Core.Bool.{Bool, true, false, cond, ◌&&◌, ◌||◌, false≢true}
use lib.Dec.{eqb}
use borrow.Author.Tests.{eq-eqb}
use mathlib.Core.List.{List, [], ◌∷◌, ◌++◌}
use mathlib.Core.Logic.Iff
use mathlib.Core.Logic.{inl, inr, ◌↔◌}
use native.Mathlib.Omega.{arith}
use Rattle.refusals.specs.declared.Refusal.{Refusal}
use Rattle.refusals.specs.declared.Told.{Told}
use Rattle.refusals.specs.Told.{told, done}
use Rattle.refusals.specs.Checks.{unless, answer_told, Check}
use Rattle.std.specs.Result.{result_and}
use Rattle.refusals.specs.Cases.{Case, DueIn, due_unless, FirstNot, first_from, due_at_first, check_of, Silent, NoneDue, Due, first_cases, ToldExactly}
use Rattle.refusals.proofs.OneToOne.{told_not_done}
use Rattle.refusals.proofs.First.{passed_not, refused_one, result_and_assoc}
use Rattle.refusals.proofs.Exactly.{told_check, unless_refuses}
use Rattle.refusals.proofs.Tests.{by_test}
use Rattle.std.specs.Prelude.{Ok, Err}

-- A case is exact: its check refuses exactly what is due.
pub record Exact (c : Case) : Type 0 where
  pub refuses : (x : Refusal) → (c.check ≡ Err x) ↔ DueIn c x

-- each is exact where in none before it anything is due
abbrev pub Chain : List Case → Type 0
Chain [] = Unit {0}
Chain (c ∷ cs) = Exact c × (Silent c → Chain cs)

-- The cases of a list are exact, in turn.
pub record AllExact (cases : List Case) : Type 0 where
  pub chain : Chain cases

pub no_more : AllExact []
no_more = record { chain = tt }

infixr 5 ◌and◌ ◌then◌
-- one case more, and what its silence says where a later one needs it
pub ◌and◌ : {c : Case} {cs : List Case} → Exact c → AllExact cs → AllExact (c ∷ cs)
e and f = record { chain = (e, λ s. f.chain) }

pub ◌then◌ : {c : Case} {cs : List Case} → Exact c → (Silent c → AllExact cs) → AllExact (c ∷ cs)
e then f = record { chain = (e, λ s. (f s).chain) }

-- the cases of two lists, one after the other: the second exact once in the first nothing is due
pub in_turn : {cs ds : List Case} → AllExact cs → (NoneDue cs → AllExact ds) → AllExact (cs ++ ds)
in_turn {cs} {ds} e f = record { chain = go cs e.chain (λ n. (f n).chain) }
  where
    go : (cs : List Case) → Chain cs → (NoneDue cs → Chain ds) → Chain (cs ++ ds)
    go [] e f = f tt
    go (c ∷ cs) e f = (e.0, λ s. go cs (e.1 s) (λ n. f (s, n)))

pub append_exact : {cs ds : List Case} → AllExact cs → AllExact ds → AllExact (cs ++ ds)
append_exact e f = in_turn e (λ n. f)

pub check_append : (cs ds : List Case) → check_of (cs ++ ds) ≡ result_and (check_of cs) (check_of ds)
check_append [] ds = refl
check_append (c ∷ cs) ds = ap (result_and c.check) (check_append cs ds) ∙ sym (result_and_assoc c.check (check_of cs) (check_of ds))

-- .. of what two lists of cases check, one after the other
pub check_in_turn : {x y : Check} (cs ds : List Case) → x ≡ check_of cs → y ≡ check_of ds → result_and x y ≡ check_of (cs ++ ds)
check_in_turn cs ds p q = rw (p, q) (sym (check_append cs ds))

-- ---- the kinds of case

pub unless_exact : {b : Bool} {P : Type 0} (tells : ℕ → Refusal) (at : ℕ) → (b ≡ true) ↔ P → Exact (due_unless b P tells at)
unless_exact {b} {P} tells at e = record { refuses = λ x. (λ q. let h = unless_refuses b (tells at) x q in (at, sym h.1, (refl, (by_test e).0 h.0)), back x) }
  where
    back : (x : Refusal) → DueIn (due_unless b P tells at) x → unless b (tells at) ≡ Err x
    back x (place, q, (z, f)) = ap (λ (c : Bool). unless c (tells at)) ((by_test e).1 f) ∙ ap Err (sym (q ∙ ap tells z))

module _ {X : Type 0} (test : X → Bool) (So : X → Type 0) (exactly : (x : X) → (test x ≡ true) ↔ So x) (at : ℕ → Refusal) where
  found : (i : ℕ) (xs : List X) (r : Refusal) → first_from test at i xs ≡ Err r → (k : ℕ) × (r ≡ at (i + k)) × FirstNot So k xs
  found i [] r e = absurd (passed_not r e)
  found i (x ∷ xs) r e = go (test x) refl e (found (suc i) xs r)
    where
      later : So x → (k : ℕ) × (r ≡ at (suc i + k)) × FirstNot So k xs → (k : ℕ) × (r ≡ at (i + k)) × FirstNot So k (x ∷ xs)
      later s (k, q, f) = let z : suc i + k ≡ i + suc k = omega arith in (suc k, q ∙ ap at z, (s, f))

      go : (b : Bool) → test x ≡ b → cond b (first_from test at (suc i) xs) (Err (at i)) ≡ Err r → (first_from test at (suc i) xs ≡ Err r → (k : ℕ) × (r ≡ at (suc i + k)) × FirstNot So k xs)
          → (k : ℕ) × (r ≡ at (i + k)) × FirstNot So k (x ∷ xs)
      go true p q ih = later ((exactly x).0 p) (ih q)
      go false p q ih = let z : i ≡ i + 0 = omega arith in (zero, sym (refused_one q) ∙ ap at z, (by_test (exactly x)).0 p)

  finds : (k i : ℕ) (xs : List X) → FirstNot So k xs → first_from test at i xs ≡ Err (at (i + k))
  finds k i [] f = absurd f
  finds zero i (x ∷ xs) f = let z : i ≡ i + 0 = omega arith in rw ((by_test (exactly x)).1 f) (ap (λ (j : ℕ). Err (at j)) z)
  finds (suc k) i (x ∷ xs) f = let z : suc i + k ≡ i + suc k = omega arith in rw ((exactly x).1 f.0) (finds k (suc i) xs f.1 ∙ ap (λ (j : ℕ). Err (at j)) z)

  pub first_exact : (xs : List X) → Exact (due_at_first test So at xs)
  first_exact xs = record {
    refuses = λ x. (λ e. from_0 x (found 0 xs x e), λ (k, q, f). let z : 0 + k ≡ k = omega arith in finds k 0 xs f ∙ ap (λ (j : ℕ). Err (at j)) z ∙ ap Err (sym q));
  }
    where
      from_0 : (x : Refusal) → (k : ℕ) × (x ≡ at (0 + k)) × FirstNot So k xs → (k : ℕ) × (x ≡ at k) × FirstNot So k xs
      from_0 x (k, q, f) = let z : 0 + k ≡ k = omega arith in (k, q ∙ ap at z, f)

-- ---- a list of cases

-- an exact case passes exactly where nothing is due
pub passes_silent : (c : Case) → Exact c → (c.check ≡ Ok tt) ↔ Silent c
passes_silent c e = (λ p k d. passed_not (c.tells k) (sym p ∙ (e.refuses (c.tells k)).1 (k, refl, d)), λ s. go c.check refl s)
  where
    go : (k : Check) → c.check ≡ k → Silent c → c.check ≡ Ok tt
    go (Ok _) p s = p
    go (Err x) p s = absurd (none ((e.refuses x).0 p))
      where
        none : DueIn c x → ⊥
        none (k, q, d) = s k d

refuses_due : (cs : List Case) → Chain cs → (x : Refusal) → check_of cs ≡ Err x → Due cs x
refuses_due [] e x p = absurd (passed_not x p)
refuses_due (c ∷ cs) e x p = go c.check refl p (λ s. refuses_due cs (e.1 s) x)
  where
    go : (k : Check) → c.check ≡ k → result_and k (check_of cs) ≡ Err x → (Silent c → check_of cs ≡ Err x → Due cs x) → Due (c ∷ cs) x
    go (Ok _) q h ih = let s = (passes_silent c e.0).0 q in inr (s, ih s h)
    go (Err y) q h ih = inl ((e.0.refuses x).0 (q ∙ h))

due_refuses : (cs : List Case) → Chain cs → (x : Refusal) → Due cs x → check_of cs ≡ Err x
due_refuses [] e x d = absurd d
due_refuses (c ∷ cs) e x (inl d) = rw ((e.0.refuses x).1 d)
due_refuses (c ∷ cs) e x (inr (s, d)) = rw ((passes_silent c e.0).1 s) (due_refuses cs (e.1 s) x d)

pub refuses_exactly : (cs : List Case) → AllExact cs → (x : Refusal) → (check_of cs ≡ Err x) ↔ Due cs x
refuses_exactly cs e x = (refuses_due cs e.chain x, due_refuses cs e.chain x)

passes_none : (cs : List Case) → Chain cs → (check_of cs ≡ Ok tt) ↔ NoneDue cs
passes_none [] e = (λ p. tt, λ n. refl)
passes_none (c ∷ cs) e = (λ p. there c.check refl p (λ s. (passes_none cs (e.1 s)).0), λ (s, n). rw ((passes_silent c e.0).1 s) ((passes_none cs (e.1 s)).1 n))
  where
    there : (k : Check) → c.check ≡ k → result_and k (check_of cs) ≡ Ok tt → (Silent c → check_of cs ≡ Ok tt → NoneDue cs) → NoneDue (c ∷ cs)
    there (Ok _) q h ih = let s = (passes_silent c e.0).0 q in (s, ih s h)
    there (Err y) q h ih = absurd (passed_not y (sym h))

pub passes_exactly : (cs : List Case) → AllExact cs → (check_of cs ≡ Ok tt) ↔ NoneDue cs
passes_exactly cs e = passes_none cs e.chain

-- a call tells done exactly when its checks pass
pub done_check : (c : Check) → (answer_told c ≡ done) ↔ (c ≡ Ok tt)
done_check (Ok _) = (λ e. refl, λ e. refl)
done_check (Err x) = (λ e. absurd (told_not_done x e), λ e. ap answer_told e)

-- An answer that is that of exact cases tells each refusal exactly where it is due, and done exactly where none is.
pub told_exactly : (cases : List Case) → AllExact cases → (answer : Told) → answer ≡ answer_told (check_of cases) → ToldExactly cases answer
told_exactly cases e answer q = record {
  refused = λ x. Iff.trans (same (told x)) (Iff.trans (told_check (check_of cases) x) (refuses_exactly cases e x));
  passes = Iff.trans (same done) (Iff.trans (done_check (check_of cases)) (passes_exactly cases e));
}
  where
    same : (t : Told) → (answer ≡ t) ↔ (answer_told (check_of cases) ≡ t)
    same t = (λ p. sym q ∙ p, λ p. q ∙ p)

-- ---- which case tells a refusal

or_first : (a b : Bool) → (a || b) ≡ false → a ≡ false
or_first true b e = e
or_first false b e = refl

or_second : (a b : Bool) → (a || b) ≡ false → b ≡ false
or_second true b e = absurd (false≢true (sym e))
or_second false b e = e

-- two rows are the same: number, which and place
abbrev same_row : Told → Told → Bool
same_row t u = eqb t.number u.number && eqb t.which u.which && eqb t.place u.place

row_itself : (t : Told) → same_row t t ≡ true
row_itself t = rw (eq-eqb t.number t.number refl, eq-eqb t.which t.which refl, eq-eqb t.place t.place refl)

-- some case tells the row at this place
abbrev pub may_tell : Told → ℕ → List Case → Bool
may_tell t place [] = false
may_tell t place (c ∷ cs) = same_row t (told (c.tells place)) || may_tell t place cs

not_here : (c : Case) (x : Refusal) (place : ℕ) → x ≡ c.tells place → same_row (told x) (told (c.tells place)) ≡ false → ⊥
not_here c x place q n = false≢true (sym n ∙ ap (λ (y : Refusal). same_row (told x) (told y)) (sym q) ∙ row_itself (told x))

-- what no case may tell is not due
pub never_due : (cases : List Case) (x : Refusal) → ((place : ℕ) → may_tell (told x) place cases ≡ false) → Due cases x → ⊥
never_due [] x n d = d
never_due (c ∷ cs) x n (inl (k, q, d)) = not_here c x k q (or_first (same_row (told x) (told (c.tells k))) (may_tell (told x) k cs) (n k))
never_due (c ∷ cs) x n (inr (s, d)) = never_due cs x (λ k. or_second (same_row (told x) (told (c.tells k))) (may_tell (told x) k cs) (n k)) d

-- x is due in case k, counted from 0
abbrev pub DueAt : ℕ → List Case → Refusal → Type 0
DueAt k [] x = ⊥
DueAt zero (c ∷ cs) x = DueIn c x
DueAt (suc k) (c ∷ cs) x = DueAt k cs x

-- some other case than number k tells the row at this place
abbrev pub others_tell : ℕ → Told → ℕ → List Case → Bool
others_tell k t place [] = false
others_tell zero t place (c ∷ cs) = may_tell t place cs
others_tell (suc k) t place (c ∷ cs) = same_row t (told (c.tells place)) || others_tell k t place cs

-- A refusal that no other case tells is due exactly where case k says so and in none before it is anything.
pub only_at : (k : ℕ) (cases : List Case) (x : Refusal) → ((place : ℕ) → others_tell k (told x) place cases ≡ false) → Due cases x ↔ (NoneDue (first_cases k cases) × DueAt k cases x)
only_at k cases x n = (there k cases n, back k cases)
  where
    there : (k : ℕ) (cases : List Case) → ((place : ℕ) → others_tell k (told x) place cases ≡ false) → Due cases x → NoneDue (first_cases k cases) × DueAt k cases x
    there k [] n d = absurd d
    there zero (c ∷ cs) n (inl d) = (tt, d)
    there zero (c ∷ cs) n (inr (s, d)) = absurd (never_due cs x n d)
    there (suc k) (c ∷ cs) n (inl (p, q, d)) = absurd (not_here c x p q (or_first (same_row (told x) (told (c.tells p))) (others_tell k (told x) p cs) (n p)))
    there (suc k) (c ∷ cs) n (inr (s, d)) = let h = there k cs (λ p. or_second (same_row (told x) (told (c.tells p))) (others_tell k (told x) p cs) (n p)) d in ((s, h.0), h.1)

    back : (k : ℕ) (cases : List Case) → NoneDue (first_cases k cases) × DueAt k cases x → Due cases x
    back k [] (u, d) = absurd d
    back zero (c ∷ cs) (u, d) = inl d
    back (suc k) (c ∷ cs) (u, d) = inr (u.0, back k cs (u.1, d))

-- a case with one place is due there exactly unless P
pub due_there : {P : Type 0} (tells : ℕ → Refusal) (at : ℕ) → ((place : ℕ) × (tells at ≡ tells place) × ((place ≡ at) × (P → ⊥))) ↔ (P → ⊥)
due_there tells at = (λ (k, q, (z, f)). f, λ f. (at, refl, (refl, f)))
