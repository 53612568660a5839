-- One algebra inside another: a map that keeps better, join, unit and no route keeps the best of several, the best over paths, and every step.
use Prim.Native.Nat.{ℕ, zero, suc, ◌<◌}
use mathlib.Core.Path.{◌≡◌, refl, sym, ◌∙◌, ap₂}
use mathlib.Core.Bool.{Bool, true, false, cond}
use mathlib.Core.Logic.{inl, inr}
use mathlib.Core.List.{List, [], ◌∷◌}
use lib.Dec.{eqb}
use native.Mathlib.Omega.{arith}
use Rattle.algebra.specs.Algebra.{Algebra, order}
use Rattle.algebra.specs.Order.{pick, best_of}
use Rattle.algebra.specs.Path.{Mem, Below, Matrix, path_weight}
use Rattle.algebra.specs.Best.{simple_paths, best_among, best}
use Rattle.algebra.specs.Step.{Step, row, settle, fresh, through, routed, step, run}
use Rattle.algebra.proofs.Enumeration.{simple_paths_sound}

-- On the weights of a kind K, which join keeps, h keeps what an algebra is made of.
pub record Embedding (𝓐 𝓑 : Algebra) (K : 𝓐.Weight → Type 0) (h : 𝓐.Weight → 𝓑.Weight) : Type 0 where
  pub unit_in : K 𝓐.unit
  pub none_in : K 𝓐.none
  pub join_in : (x y : 𝓐.Weight) → K x → K y → K (𝓐.join x y)
  pub of_unit : h 𝓐.unit ≡ 𝓑.unit
  pub of_none : h 𝓐.none ≡ 𝓑.none
  pub of_join : (x y : 𝓐.Weight) → K x → K y → h (𝓐.join x y) ≡ 𝓑.join (h x) (h y)
  pub of_better : (x y : 𝓐.Weight) → K x → K y → 𝓑.better (h x) (h y) ≡ 𝓐.better x y

module _ (𝓐 𝓑 : Algebra) (K : 𝓐.Weight → Type 0) (h : 𝓐.Weight → 𝓑.Weight) where
  -- w is of the kind, and v is what it is mapped to
  pub record Goes (w : 𝓐.Weight) (v : 𝓑.Weight) : Type 0 where
    pub kind : K w
    pub to : h w ≡ v

  -- the n x n entries of the one matrix go to those of the other
  abbrev pub GoesTo : ℕ → Matrix 𝓐 → Matrix 𝓑 → Type 0
  GoesTo n A B = (i j : ℕ) → i < n → j < n → Goes (A i j) (B i j)

module _ (𝓐 𝓑 : Algebra) (K : 𝓐.Weight → Type 0) (h : 𝓐.Weight → 𝓑.Weight) (E : Embedding 𝓐 𝓑 K h) where
  infix 50 ◌⇒◌
  abbrev ◌⇒◌ : 𝓐.Weight → 𝓑.Weight → Type 0
  ◌⇒◌ = Goes 𝓐 𝓑 K h

  pub unit_goes : 𝓐.unit ⇒ 𝓑.unit
  unit_goes = record { kind = E.unit_in; to = E.of_unit }

  pub none_goes : 𝓐.none ⇒ 𝓑.none
  none_goes = record { kind = E.none_in; to = E.of_none }

  pub join_goes : {x y : 𝓐.Weight} {v w : 𝓑.Weight} → x ⇒ v → y ⇒ w → 𝓐.join x y ⇒ 𝓑.join v w
  join_goes {x} {y} p q = record { kind = E.join_in x y p.kind q.kind; to = E.of_join x y p.kind q.kind ∙ ap₂ 𝓑.join p.to q.to }

  cond_goes : (b : Bool) {x y : 𝓐.Weight} {v w : 𝓑.Weight} → x ⇒ v → y ⇒ w → cond b x y ⇒ cond b v w
  cond_goes true p q = p
  cond_goes false p q = q

  pub better_goes : {x y : 𝓐.Weight} {v w : 𝓑.Weight} → x ⇒ v → y ⇒ w → 𝓑.better v w ≡ 𝓐.better x y
  better_goes {x} {y} p q = sym (ap₂ 𝓑.better p.to q.to) ∙ E.of_better x y p.kind q.kind

  pub pick_goes : {x y : 𝓐.Weight} {v w : 𝓑.Weight} → x ⇒ v → y ⇒ w → pick (order 𝓐) x y ⇒ pick (order 𝓑) v w
  unfolding pick
  pick_goes {x} {y} {v} {w} p q = rw (better_goes q p) (cond_goes (𝓐.better y x) q p)

  pub best_of_goes : (n : ℕ) (f : ℕ → 𝓐.Weight) (g : ℕ → 𝓑.Weight) (z : 𝓐.Weight) (y : 𝓑.Weight) → ((k : ℕ) → k < n → f k ⇒ g k) → z ⇒ y → best_of (order 𝓐) n f z ⇒ best_of (order 𝓑) n g y
  unfolding best_of
  best_of_goes zero f g z y each last = last
  best_of_goes (suc n) f g z y each last = pick_goes (best_of_goes n f g z y (λ k l. each k (omega arith)) last) (each n (omega arith))

  pub fresh_goes : (i j : ℕ) → fresh 𝓐 i j ⇒ fresh 𝓑 i j
  fresh_goes i j = cond_goes (eqb i j) unit_goes none_goes

  module _ (n : ℕ) (A : Matrix 𝓐) (B : Matrix 𝓑) (arcs : GoesTo 𝓐 𝓑 K h n A B) where
    path_goes : (i : ℕ) (p : List ℕ) → Below n (i ∷ p) → path_weight 𝓐 A i p ⇒ path_weight 𝓑 B i p
    path_goes i [] b = unit_goes
    path_goes i (k ∷ p) b = join_goes (arcs i k b.0 b.1.0) (path_goes k p b.1)

    among_goes : (i : ℕ) (ps : List (List ℕ)) → ((p : List ℕ) → Mem p ps → Below n (i ∷ p)) → best_among 𝓐 A i ps ⇒ best_among 𝓑 B i ps
    unfolding best_among
    among_goes i [] b = none_goes
    among_goes i (p ∷ ps) b = pick_goes (among_goes i ps (λ q m. b q (inr m))) (path_goes i p (b p (inl refl)))

    pub best_goes : GoesTo 𝓐 𝓑 K h n (best 𝓐 n A) (best 𝓑 n B)
    unfolding best
    best_goes i j l o = among_goes i (simple_paths n n [] i j) (λ p m. (simple_paths_sound n i j p l m).below)

    pub routed_goes : (R : Matrix 𝓐) (S : Matrix 𝓑) → GoesTo 𝓐 𝓑 K h n R S → GoesTo 𝓐 𝓑 K h n (routed 𝓐 n A R) (routed 𝓑 n B S)
    unfolding routed
    routed_goes R S r i j l o = best_of_goes n (through 𝓐 A R i j) (through 𝓑 B S i j) (fresh 𝓐 i j) (fresh 𝓑 i j) (λ k m. join_goes (arcs i k l m) (r k j m o)) (fresh_goes i j)

    pub step_goes : (s : Step) (R : Matrix 𝓐) (S : Matrix 𝓑) → GoesTo 𝓐 𝓑 K h n R S → GoesTo 𝓐 𝓑 K h n (step 𝓐 n A s R) (step 𝓑 n B s S)
    step_goes (row u) R S r i j l o = cond_goes (eqb i u) (routed_goes R S r i j l o) (r i j l o)
    step_goes (settle v) R S r i j l o = cond_goes (eqb j v) (best_goes i j l o) (r i j l o)

    pub run_goes : (steps : List Step) (R : Matrix 𝓐) (S : Matrix 𝓑) → GoesTo 𝓐 𝓑 K h n R S → GoesTo 𝓐 𝓑 K h n (run 𝓐 n A steps R) (run 𝓑 n B steps S)
    run_goes [] R S r = r
    run_goes (s ∷ steps) R S r = run_goes steps (step 𝓐 n A s R) (step 𝓑 n B s S) (step_goes s R S r)
