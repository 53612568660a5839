-- Tests of all of several, and of the routing equation: a test holds exactly where what it tests does.
use mathlib.Core.Path.{◌≡◌, refl, sym, ap, ap₂, ◌∙◌}
use mathlib.Core.Logic.{⊎_elim, ◌↔◌}
use mathlib.Core.Bool.{Bool, true, false, ◌&&◌, and-true, and-false, and_assoc, and-eq-true_iff}
use mathlib.Core.List.{List}
use Prim.Native.Nat.{ℕ, zero, suc, ◌+◌, ◌<◌}
use native.Mathlib.Nat.{eq-or-lt_of_le, le_of_suc-le-suc}
use native.Mathlib.Numerals.{add-one}
use native.Mathlib.Omega.{arith}
use denote.Param.Members.{Mut}
use Rattle.std.specs.declared.ops.Range.{Range}
use Rattle.std.specs.Prelude.{Option}
use Rattle.std.specs.Option.{MatchOption}
use Rattle.std.specs.List.{list_all, range_with_len, FoldsTo}
use Rattle.std.specs.Iterator.{YieldsThen}
use Rattle.std.specs.Fn.{Called}
use Rattle.std.proofs.iter.Yields.{nat_range_steps}
use Rattle.std.proofs.lemmas.Iterator.{YieldsList-from_range}
use Rattle.std.proofs.lemmas.Iterator.Search.{all_from_yields_List}
use Rattle.algebra.specs.Step.{routed, Solves}
use Rattle.weights.specs.declared.Component.{Component}
use Rattle.weights.specs.Weights.{language}
use Rattle.weights.proofs.Compared.{same_exactly}
use Rattle.matrices.specs.Steps.{Matrix, every, row_solves, solves}
use Rattle.matrices.specs.Parts.{same_at}

pub every_none : (t : ℕ → Bool) → every 0 t ≡ true
unfolding every
every_none t = refl

pub every_more : (t : ℕ → Bool) (m : ℕ) → every m t ≡ true → t m ≡ true → every (m + 1) t ≡ true
unfolding every
every_more t m h e = rw (add-one, h, e)

-- a test that fails below n fails for all of n
pub every_false : (t : ℕ → Bool) (n m : ℕ) → m < n → t m ≡ false → every n t ≡ false
unfolding every
every_false t zero m h e = absurd (omega arith)
every_false t (suc n) m h e = ⊎_elim at_last (λ l. earlier (every_false t n m l e)) (eq-or-lt_of_le (le_of_suc-le-suc h))
  where
    at_last : m ≡ n → (every n t && t n) ≡ false
    at_last q = rw (← q, e, and-false)

    earlier : every n t ≡ false → (every n t && t n) ≡ false
    earlier q = rw q

pub every_cong : (t u : ℕ → Bool) (n : ℕ) → ((j : ℕ) → j < n → t j ≡ u j) → every n t ≡ every n u
unfolding every
every_cong t u zero e = refl
every_cong t u (suc n) e = ap₂ (λ (a b : Bool). a && b) (every_cong t u n (λ j h. e j (omega arith))) (e n (omega arith))

pub every_at : (t : ℕ → Bool) (n : ℕ) → every n t ≡ true → (j : ℕ) → j < n → t j ≡ true
unfolding every
every_at t zero e j h = absurd (omega arith)
every_at t (suc n) e j h =
    let k = (and-eq-true_iff (every n t) (t n)).0 e in
    ⊎_elim (λ q. ap t q ∙ k.1) (λ l. every_at t n k.0 j l) (eq-or-lt_of_le (le_of_suc-le-suc h))

pub every_all : (t : ℕ → Bool) (n : ℕ) → ((j : ℕ) → j < n → t j ≡ true) → every n t ≡ true
unfolding every
every_all t zero h = refl
every_all t (suc n) h = rw (every_all t n (λ j l. h j (omega arith)), h n (omega arith))

-- R satisfies the routing equation
pub solves_exactly : (cs : List Component) (n : ℕ) (A R : Matrix) → (solves cs n A R ≡ true) ↔ Solves (language cs) n A R
solves_exactly cs n A R = (
  λ e i j hi hj. sym ((same_exactly (routed (language cs) n A R i j) (R i j)).0 (every_at (same_at (routed (language cs) n A R i) (R i)) n (every_at (row_solves cs n A R) n e i hi) j hj)),
  λ h. every_all (row_solves cs n A R) n
      (λ i hi. every_all (same_at (routed (language cs) n A R i) (R i)) n (λ j hj. (same_exactly (routed (language cs) n A R i j) (R i j)).1 (sym (h i j hi hj)))),
)

-- ---- `all` over a range

-- a test of the first and of those after it
every_front : (t : ℕ → Bool) (n : ℕ) → every (suc n) t ≡ (t 0 && every n (λ j. t (suc j)))
unfolding every
every_front t zero = sym (and-true (t 0))
every_front t (suc n) = ap (λ (b : Bool). b && t (suc n)) (every_front t n) ∙ and_assoc (t 0) (every n (λ j. t (suc j))) (t (suc n))

all_from : (t : ℕ → Bool) (a n : ℕ) → list_all t (range_with_len a n) ≡ every n (λ j. t (a + j))
unfolding every
all_from t a zero = refl
all_from t a (suc n) =
    let next : every n (λ j. t (a + 1 + j)) ≡ every n (λ j. t (a + suc j)) = every_cong (λ j. t (a + 1 + j)) (λ j. t (a + suc j)) n (λ j h. ap t {x = a + 1 + j} {y = a + suc j} (omega arith)) in
    let here : t a ≡ t (a + 0) = ap t {x = a} {y = a + 0} (omega arith) in
    ap₂ (λ (x y : Bool). x && y) here (all_from t (a + 1) n ∙ next) ∙ sym (every_front (λ j. t (a + j)) n)

-- `all` over 0 .. n - 1, where what it asks computes the test t
pub all_every : {F : Type 0} {g : Mut F (ℕ × Unit {0}) Bool} (t : ℕ → Bool) (n : ℕ) (u : Range ℕ) (f : F) (r : Bool)
    → (xs : List ℕ) × (o : Option ℕ) × (j : F) × YieldsThen nat_range_steps (record { start = 0; end = n }) xs o u × FoldsTo (λ p x q. Called g p (x, tt) true q) f xs j × MatchOption o (r ≡ true) (λ x. (r ≡ false) × ((h : F) × Called g j (x, tt) false h))
    → ((x : ℕ) (b : Bool) (q : F) → Called g f (x, tt) b q → (q ≡ f) × (b ≡ t x)) → r ≡ every n t
all_every t n u f r ran asks =
    all_from_yields_List t u f r ran (YieldsList-from_range 0 n n refl (omega arith)) asks
    ∙ all_from t 0 n
    ∙ every_cong (λ j. t (0 + j)) t n (λ j h. ap t {x = 0 + j} {y = j} (omega arith))
