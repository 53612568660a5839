-- One column of the matrix: what stays true of it under every step.
use Prim.Native.Nat.{ℕ, suc, ◌≤◌, ◌<◌}
use mathlib.Core.Path.{◌≡◌, refl, sym, ◌∙◌, ap, subst}
use mathlib.Core.Bool.{Bool, true, false, cond}
use mathlib.Core.Logic.{◌⊎◌, inl, inr}
use mathlib.Core.List.{List, [], ◌∷◌}
use lib.Dec.{eqb}
use lib.ListN.{length}
use borrow.Author.Tests.{eqb-true, eq-eqb}
use native.Mathlib.Omega.{arith}
use native.Mathlib.Decide.{ℕ_discrete}
use Rattle.algebra.specs.Algebra.{Algebra, order}
use Rattle.algebra.specs.Path.{Mem, Below, Simple, Matrix, path_weight}
use Rattle.algebra.specs.Best.{OfSimplePath, Best}
use Rattle.algebra.specs.Step.{fresh, through, routed}
use Rattle.algebra.specs.Demand.{HoldsBest}
use Rattle.algebra.proofs.Orders.{NoWorse, nw_refl, nw_eq, nw_trans, nw_antisym, best_of_mono, best_of_is, Chosen}
use Rattle.algebra.specs.Network.{Network}
use Rattle.algebra.proofs.Joining.{nw_none, nw_join, nw_grows}
use Rattle.algebra.proofs.Paths.{simple_rest, simple_stay, simple_more, simple_short}
use Rattle.algebra.proofs.Bests.{simple_valid, held_valid, best_nw, best_nw_held}

module _ (𝓐 : Algebra) (A : Matrix 𝓐) (j : ℕ) where
  -- along the path p from i, the entry of column j at each node is no worse than the rest of the path
  abbrev pub Ahead : Matrix 𝓐 → ℕ → List ℕ → Type 0
  Ahead R i [] = NoWorse (order 𝓐) (R i j) 𝓐.unit
  Ahead R i (k ∷ p) = NoWorse (order 𝓐) (R i j) (path_weight 𝓐 A i (k ∷ p)) × Ahead R k p

  -- column j holds no route at i, or the weight of a simple path along which the entries are ahead
  abbrev pub Supported : ℕ → Matrix 𝓐 → ℕ → Type 0
  Supported n R i = (R i j ≡ 𝓐.none) ⊎ ((p : List ℕ) × Simple n i j p × (path_weight 𝓐 A i p ≡ R i j) × Ahead R i p)

  -- What stays true of column j: a row step would never make it worse, and each entry is supported by a path.
  pub record Sane (n : ℕ) (R : Matrix 𝓐) : Type 0 where
    pub falls : (i : ℕ) → i < n → NoWorse (order 𝓐) (routed 𝓐 n A R i j) (R i j)
    pub paths : (i : ℕ) → i < n → Supported n R i

module _ (N : Network) (j : ℕ) where
  open N use {𝓐, 𝓛, n, A, arcs_valid}
  open 𝓐 use {Weight, Valid, better, join, unit, none}

  infix 50 ◌≼◌
  abbrev ◌≼◌ : Weight → Weight → Type 0
  ◌≼◌ = NoWorse (order 𝓐)

  abbrev W : ℕ → List ℕ → Weight
  W = path_weight 𝓐 A

  fresh_valid : (i : ℕ) → Valid (fresh 𝓐 i j)
  fresh_valid i = go (eqb i j)
    where
      go : (b : Bool) → Valid (cond b unit none)
      go true = 𝓛.unit_valid
      go false = 𝓛.none_valid

  fresh_here : (i : ℕ) → i ≡ j → fresh 𝓐 i j ≡ unit
  fresh_here i e = rw (eq-eqb i j e)

  -- what the best of a row is made of
  pub routed_is : (R : Matrix 𝓐) → ((k : ℕ) → k < n → Valid (R k j)) → (i : ℕ) → i < n → Chosen (order 𝓐) 𝓛.ordered n (through 𝓐 A R i j) (fresh 𝓐 i j) (routed 𝓐 n A R i j)
  unfolding routed
  routed_is R oks i h = best_of_is (order 𝓐) 𝓛.ordered n (through 𝓐 A R i j) (fresh 𝓐 i j) (λ k l. 𝓛.join_valid (A i k) (R k j) (arcs_valid i k h l) (oks k l)) (fresh_valid i)

  routed_mono : (R S : Matrix 𝓐) → ((k : ℕ) → k < n → R k j ≼ S k j) → (i : ℕ) → i < n → routed 𝓐 n A R i j ≼ routed 𝓐 n A S i j
  unfolding routed
  routed_mono R S m i h = best_of_mono (order 𝓐) 𝓛.ordered n (through 𝓐 A R i j) (through 𝓐 A S i j) (fresh 𝓐 i j) (λ k l. nw_join 𝓐 𝓛 (arcs_valid i k h l) (m k l)) (fresh_valid i)

  ahead_head : (R : Matrix 𝓐) (i : ℕ) (p : List ℕ) → Ahead 𝓐 A j R i p → R i j ≼ W i p
  ahead_head R i [] a = a
  ahead_head R i (k ∷ p) a = a.0

  ahead_mono : (R S : Matrix 𝓐) → ((k : ℕ) → k < n → R k j ≼ S k j) → (i : ℕ) (p : List ℕ) → Below n (i ∷ p) → Ahead 𝓐 A j S i p → Ahead 𝓐 A j R i p
  ahead_mono R S m i [] b a = nw_trans (order 𝓐) 𝓛.ordered (m i b.0) a
  ahead_mono R S m i (k ∷ p) b a = (nw_trans (order 𝓐) 𝓛.ordered (m i b.0) a.0, ahead_mono R S m k p b.1 a.1)

  -- the part of the path p from k that starts at i
  abbrev Part : Matrix 𝓐 → ℕ → ℕ → List ℕ → Type 0
  Part R i k p = (q : List ℕ) × Simple n i j q × Ahead 𝓐 A j R i q × (W i q ≼ W k p)

  whole : (R : Matrix 𝓐) (i k : ℕ) (p : List ℕ) → i ≡ k → Simple n k j p → Ahead 𝓐 A j R k p → Part R i k p
  whole R i k p e s a = rw e (p, s, a, nw_refl (order 𝓐) 𝓛.ordered (simple_valid N s))

  -- i is not on the path, or a part of the path starts at i
  cut : (R : Matrix 𝓐) (i k : ℕ) (p : List ℕ) → Simple n k j p → Ahead 𝓐 A j R k p → (¬ Mem i (k ∷ p)) ⊎ Part R i k p
  cut R i k [] s a = go (ℕ_discrete i k)
    where
      go : Dec (i ≡ k) → (¬ Mem i (k ∷ [])) ⊎ Part R i k []
      go (yes e) = inr (whole R i k [] e s a)
      go (no f) = inl off
        where
          off : ¬ Mem i (k ∷ [])
          off (inl e) = f e
          off (inr m) = m
  cut R i k (l ∷ p) s a = go (ℕ_discrete i k) (cut R i l p (simple_rest s) a.1)
    where
      go : Dec (i ≡ k) → (¬ Mem i (l ∷ p)) ⊎ Part R i l p → (¬ Mem i (k ∷ l ∷ p)) ⊎ Part R i k (l ∷ p)
      go (yes e) r = inr (whole R i k (l ∷ p) e s a)
      go (no f) (inl g) = inl off
        where
          off : ¬ Mem i (k ∷ l ∷ p)
          off (inl e) = f e
          off (inr m) = g m
      go (no f) (inr (q, t, b, w)) = inr (q, t, b, nw_trans (order 𝓐) 𝓛.ordered w (nw_grows 𝓐 𝓛 (arcs_valid k l s.below.0 s.below.1.0) w.right))

  -- a fresh entry is supported where the column holds it
  fresh_supported : (R : Matrix 𝓐) (i : ℕ) → i < n → R i j ≡ fresh 𝓐 i j → Supported 𝓐 A j n R i
  fresh_supported R i h = go (eqb i j) refl
    where
      go : (b : Bool) → eqb i j ≡ b → R i j ≡ cond b unit none → Supported 𝓐 A j n R i
      go true e f = inr ([], subst (λ (x : ℕ). Simple n i x []) (eqb-true i j e) (simple_stay h), sym f, rw f (nw_refl (order 𝓐) 𝓛.ordered 𝓛.unit_valid))
      go false e f = inl f

  -- S comes from R, as far as column j goes, by recomputing some of the rows
  abbrev pub Moved : Matrix 𝓐 → Matrix 𝓐 → Type 0
  Moved R S = (i : ℕ) → i < n → (S i j ≡ R i j) ⊎ (S i j ≡ routed 𝓐 n A R i j)

  pub moved_down : (R S : Matrix 𝓐) → Sane 𝓐 A j n R → Moved R S → (i : ℕ) → i < n → S i j ≼ R i j
  moved_down R S c m i h = go (m i h)
    where
      go : (S i j ≡ R i j) ⊎ (S i j ≡ routed 𝓐 n A R i j) → S i j ≼ R i j
      go (inl e) = rw e (nw_refl (order 𝓐) 𝓛.ordered (c.falls i h).right)
      go (inr e) = rw e (c.falls i h)

  module _ (R S : Matrix 𝓐) (c : Sane 𝓐 A j n R) (m : Moved R S) where
    down : (i : ℕ) → i < n → S i j ≼ R i j
    down = moved_down R S c m

    -- the recomputed entry comes by way of k, where the column is supported
    by_way : (i k : ℕ) → i < n → k < n → S i j ≡ routed 𝓐 n A R i j → S i j ≡ join (A i k) (R k j) → Supported 𝓐 A j n R k → Supported 𝓐 A j n S i
    by_way i k h l e f (inl g) = inl (f ∙ ap (join (A i k)) g ∙ 𝓛.absorbs (A i k) (arcs_valid i k h l))
    by_way i k h l e f (inr (p, s, g, a)) = go (cut R i k p s a)
      where
        arc : W i (k ∷ p) ≡ S i j
        arc = ap (join (A i k)) g ∙ sym f

        go : (¬ Mem i (k ∷ p)) ⊎ Part R i k p → Supported 𝓐 A j n S i
        go (inl off) = inr (k ∷ p, simple_more h off s, arc, (nw_eq (order 𝓐) 𝓛.ordered (down i h).left (sym arc), ahead_mono S R down k p s.below a))
        go (inr (q, t, b, w)) = inr (q, t, nw_antisym (order 𝓐) 𝓛.ordered up (nw_trans (order 𝓐) 𝓛.ordered (down i h) (ahead_head R i q b)), ahead_mono S R down i q t.below b)
          where
            up : W i q ≼ S i j
            up = subst (λ (x : Weight). W i q ≼ x) arc (nw_trans (order 𝓐) 𝓛.ordered w (nw_grows 𝓐 𝓛 (arcs_valid i k h l) w.right))

    supported : (i : ℕ) → i < n → (S i j ≡ R i j) ⊎ (S i j ≡ routed 𝓐 n A R i j) → Supported 𝓐 A j n R i → Supported 𝓐 A j n S i
    supported i h (inl e) (inl f) = inl (e ∙ f)
    supported i h (inl e) (inr (p, s, g, a)) = inr (p, s, g ∙ sym e, ahead_mono S R down i p s.below a)
    supported i h (inr e) r = go (routed_is R (λ k l. (c.falls k l).right) i h).from
      where
        go : (routed 𝓐 n A R i j ≡ fresh 𝓐 i j) ⊎ ((k : ℕ) × (k < n) × (routed 𝓐 n A R i j ≡ join (A i k) (R k j))) → Supported 𝓐 A j n S i
        go (inl f) = fresh_supported S i h (e ∙ f)
        go (inr (k, l, f)) = by_way i k h l e (e ∙ f) (c.paths k l)

    falling : (i : ℕ) → i < n → (S i j ≡ R i j) ⊎ (S i j ≡ routed 𝓐 n A R i j) → routed 𝓐 n A S i j ≼ S i j
    falling i h (inl e) = rw e (nw_trans (order 𝓐) 𝓛.ordered (routed_mono S R down i h) (c.falls i h))
    falling i h (inr e) = rw e (routed_mono S R down i h)

    -- recomputing rows keeps a sane column sane
    pub moved_sane : Sane 𝓐 A j n S
    moved_sane = record { falls = λ i h. falling i h (m i h); paths = λ i h. supported i h (m i h) (c.paths i h) }

  pub supported_held : (R : Matrix 𝓐) (i : ℕ) → Supported 𝓐 A j n R i → OfSimplePath 𝓐 n A i j (R i j)
  supported_held R i (inl e) = inl e
  supported_held R i (inr (p, s, e, a)) = inr (p, s, e)

  -- the fresh column is sane
  pub fresh_sane : Sane 𝓐 A j n (fresh 𝓐)
  fresh_sane = record {
    falls = λ i h. (routed_is (fresh 𝓐) (λ k l. fresh_valid k) i h).last;
    paths = λ i h. fresh_supported (fresh 𝓐) i h refl;
  }

  module _ (R : Matrix 𝓐) (b : HoldsBest 𝓐 n A R j) where
    best_ahead : (i : ℕ) (p : List ℕ) → Simple n i j p → Ahead 𝓐 A j R i p
    best_ahead i [] s = best_nw N (b i s.below.0) [] s
    best_ahead i (k ∷ p) s = (best_nw N (b i s.below.0) (k ∷ p) s, best_ahead k p (simple_rest s))

    best_falls : (i : ℕ) → i < n → OfSimplePath 𝓐 n A i j (R i j) → routed 𝓐 n A R i j ≼ R i j
    best_falls i h (inl e) = rw e (nw_none 𝓐 𝓛 (routed_is R (λ k l. held_valid N (b k l).held) i h).last.left)
    best_falls i h (inr (p, s, e)) = subst (λ (x : Weight). routed 𝓐 n A R i j ≼ x) e (below p s)
      where
        r : Chosen (order 𝓐) 𝓛.ordered n (through 𝓐 A R i j) (fresh 𝓐 i j) (routed 𝓐 n A R i j)
        r = routed_is R (λ k l. held_valid N (b k l).held) i h

        below : (p : List ℕ) → Simple n i j p → routed 𝓐 n A R i j ≼ W i p
        below [] s = subst (λ (x : Weight). routed 𝓐 n A R i j ≼ x) (fresh_here i s.ends) r.last
        below (k ∷ p) s = nw_trans (order 𝓐) 𝓛.ordered (r.each k s.below.1.0) (nw_join 𝓐 𝓛 (arcs_valid i k h s.below.1.0) (best_nw N (b k s.below.1.0) p (simple_rest s)))

    -- a column of best weights is sane
    pub best_sane : Sane 𝓐 A j n R
    best_sane = record { falls = λ i h. best_falls i h (b i h).held; paths = λ i h. go i h (b i h).held }
      where
        go : (i : ℕ) → i < n → OfSimplePath 𝓐 n A i j (R i j) → Supported 𝓐 A j n R i
        go i h (inl e) = inl e
        go i h (inr (p, s, e)) = inr (p, s, e, best_ahead i p s)

  -- a sane column that is no worse than a column of best weights is one
  pub stay_best : (R S : Matrix 𝓐) → HoldsBest 𝓐 n A R j → Sane 𝓐 A j n S → ((i : ℕ) → i < n → S i j ≼ R i j) → HoldsBest 𝓐 n A S j
  stay_best R S b c d i h = subst (Best 𝓐 n A i j) (nw_antisym (order 𝓐) 𝓛.ordered (best_nw_held N (b i h) (supported_held S i (c.paths i h))) (d i h)) (b i h)

  -- each entry is no worse than every simple path of at most m arcs
  abbrev pub Near : ℕ → Matrix 𝓐 → Type 0
  Near m R = (i : ℕ) → i < n → (p : List ℕ) → Simple n i j p → length p ≤ m → R i j ≼ W i p

  pub near_fresh : Near 0 (fresh 𝓐)
  near_fresh i h [] s l = rw (fresh_here i s.ends) (nw_refl (order 𝓐) 𝓛.ordered 𝓛.unit_valid)
  near_fresh i h (k ∷ p) s l = absurd (omega arith)

  pub near_down : (m : ℕ) (R S : Matrix 𝓐) → ((i : ℕ) → i < n → S i j ≼ R i j) → Near m R → Near m S
  near_down m R S d r i h p s l = nw_trans (order 𝓐) 𝓛.ordered (d i h) (r i h p s l)

  -- recomputing an entry reaches one arc further
  pub near_routed : (m : ℕ) (R : Matrix 𝓐) → Sane 𝓐 A j n R → Near m R → (i : ℕ) → i < n → (p : List ℕ) → Simple n i j p → length p ≤ suc m → routed 𝓐 n A R i j ≼ W i p
  near_routed m R c r i h [] s l = subst (λ (x : Weight). routed 𝓐 n A R i j ≼ x) (fresh_here i s.ends) (routed_is R (λ k o. (c.falls k o).right) i h).last
  near_routed m R c r i h (k ∷ p) s l =
      let o : k < n = s.below.1.0 in
      nw_trans (order 𝓐) 𝓛.ordered ((routed_is R (λ k o. (c.falls k o).right) i h).each k o) (nw_join 𝓐 𝓛 (arcs_valid i k h o) (r k o p (simple_rest s) (omega arith)))

  -- where all simple paths are reached, the column is best
  pub near_best : (m : ℕ) (R : Matrix 𝓐) → Sane 𝓐 A j n R → n ≤ suc m → Near m R → HoldsBest 𝓐 n A R j
  near_best m R c g r i h = record { held = supported_held R i (c.paths i h); unbeaten = λ p s. (r i h p s (omega (arith, simple_short s))).test }
