-- Where R satisfies the routing equation, the forwarding sum satisfies the forwarding equation; where R holds the best weights, it is the
-- best over all paths that visit no node twice. One proof for every mode.
use Prim.Native.Nat.{ℕ, ◌<◌}
use mathlib.Core.Path.{◌≡◌, refl, sym, ◌∙◌, ap, subst}
use mathlib.Core.Bool.{Bool, true, false, cond}
use mathlib.Core.Logic.{◌⊎◌, inl, inr}
use mathlib.Core.List.{List, [], ◌∷◌}
use lib.Dec.{eqb}
use borrow.Author.Tests.{eqb-true, eq-eqb}
use Rattle.algebra.specs.Algebra.{Algebra, order}
use Rattle.algebra.specs.Path.{Below, end, Simple, Matrix, ValidMatrix, path_weight}
use Rattle.algebra.specs.Network.{Network}
use Rattle.algebra.specs.Best.{OfSimplePath, Best}
use Rattle.algebra.specs.Step.{fresh, through, Solves}
use Rattle.algebra.specs.Modes.{Mode, Table, ValidTable, carried, forwarded, onward, Forwards, BestForwarded, SemiModule}
use Rattle.algebra.proofs.Orders.{NoWorse, nw_trans, nw_antisym, best_of_is, Chosen}
use Rattle.algebra.proofs.Bests.{held_valid, simple_valid}
use Rattle.algebra.proofs.Column.{routed_is}

-- ---- what a weight applied to entries keeps

module _ (𝓐 : Algebra) (𝓜 : Mode 𝓐) (𝓢 : SemiModule 𝓐 𝓜) where
  open 𝓐 use {Weight, Valid}
  open 𝓜 use {entries, empty, apply}

  infix 50 ◌≼◌
  abbrev ◌≼◌ : entries.Thing → entries.Thing → Type 0
  ◌≼◌ = NoWorse entries

  pub nw_empty : {e : entries.Thing} → entries.Valid e → e ≼ empty
  nw_empty {e} v = record { left = v; right = 𝓢.empty_valid; test = 𝓢.worst e v }

  pub nw_entries : {w : Weight} {e f : entries.Thing} → Valid w → e ≼ f → apply w e ≼ apply w f
  nw_entries {w} {e} {f} v p = record { left = 𝓢.apply_valid w e v p.left; right = 𝓢.apply_valid w f v p.right; test = 𝓢.keeps_entries w e f v p.left p.right p.test }

  pub nw_weights : {v w : Weight} {e : entries.Thing} → NoWorse (order 𝓐) v w → entries.Valid e → apply v e ≼ apply w e
  nw_weights {v} {w} {e} p o = record { left = 𝓢.apply_valid v e p.left o; right = 𝓢.apply_valid w e p.right o; test = 𝓢.keeps_weights v w e p.left p.right o p.test }

  -- what the forwarding sum is made of
  pub forwarded_is : (n m : ℕ) (R : Matrix 𝓐) → ValidMatrix 𝓐 n R → (M : Table 𝓐 𝓜) → ValidTable 𝓐 𝓜 n m M → (i d : ℕ) → i < n → d < m
      → Chosen entries 𝓢.ordered n (carried 𝓐 𝓜 R M i d) empty (forwarded 𝓐 𝓜 n R M i d)
  unfolding forwarded
  forwarded_is n m R v_r M v_m i d h l = best_of_is entries 𝓢.ordered n (carried 𝓐 𝓜 R M i d) empty (λ k o. 𝓢.apply_valid (R i k) (M k d) (v_r i k h o) (v_m k d o l)) 𝓢.empty_valid

  -- the forwarded table is valid
  pub forwarded_valid : (n m : ℕ) (R : Matrix 𝓐) → ValidMatrix 𝓐 n R → (M : Table 𝓐 𝓜) → ValidTable 𝓐 𝓜 n m M → ValidTable 𝓐 𝓜 n m (forwarded 𝓐 𝓜 n R M)
  forwarded_valid n m R v_r M v_m i d h l = (forwarded_is n m R v_r M v_m i d h l).last.left

-- ---- the forwarding equation

module _ (N : Network) (𝓜 : Mode N.𝓐) (𝓢 : SemiModule N.𝓐 𝓜) (R : Matrix N.𝓐) (r_valid : ValidMatrix N.𝓐 N.n R)
    (solves : Solves N.𝓐 N.n N.A R) (m : ℕ) (M : Table N.𝓐 𝓜) (m_valid : ValidTable N.𝓐 𝓜 N.n m M) where
  open N use {𝓐, 𝓛, n, A, arcs_valid}
  open 𝓐 use {Weight, Valid, join, unit, none}
  open 𝓜 use {entries, empty, apply}

  infix 50 ◌⊑◌
  abbrev ◌⊑◌ : entries.Thing → entries.Thing → Type 0
  ◌⊑◌ = NoWorse entries

  trans : {x y z : entries.Thing} → x ⊑ y → y ⊑ z → x ⊑ z
  trans = nw_trans entries 𝓢.ordered

  -- what R is made of
  r_is : (i j : ℕ) → i < n → j < n → Chosen (order 𝓐) 𝓛.ordered n (through 𝓐 A R i j) (fresh 𝓐 i j) (R i j)
  r_is i j h l = rw (solves i j h l) (routed_is N j R (λ k o. r_valid k j o l) i h)

  module _ (d : ℕ) (hd : d < m) where
    F : ℕ → entries.Thing
    F i = forwarded 𝓐 𝓜 n R M i d

    f_is : (i : ℕ) → i < n → Chosen entries 𝓢.ordered n (carried 𝓐 𝓜 R M i d) empty (F i)
    unfolding F
    f_is i h = forwarded_is 𝓐 𝓜 𝓢 n m R r_valid M m_valid i d h hd

    G : ℕ → entries.Thing
    G i = onward 𝓐 𝓜 n A M (forwarded 𝓐 𝓜 n R M) i d

    along : ℕ → ℕ → entries.Thing
    along i k = apply (A i k) (F k)

    g_is : (i : ℕ) → i < n → Chosen entries 𝓢.ordered n (along i) (M i d) (G i)
    unfolding G onward F along
    g_is i h = best_of_is entries 𝓢.ordered n (carried 𝓐 𝓜 A (forwarded 𝓐 𝓜 n R M) i d) (M i d)
        (λ k l. 𝓢.apply_valid (A i k) (forwarded 𝓐 𝓜 n R M k d) (arcs_valid i k h l) (forwarded_valid 𝓐 𝓜 𝓢 n m R r_valid M m_valid k d l hd)) (m_valid i d h hd)

    module _ (i : ℕ) (h : i < n) where
      -- F is no worse than what the table holds at i
      f_home : F i ⊑ M i d
      f_home = trans ((f_is i h).each i h) (rw (𝓢.apply_unit (M i d) (m_valid i d h hd)) at (nw_weights 𝓐 𝓜 𝓢 here (m_valid i d h hd)))
        where
          here : NoWorse (order 𝓐) (R i i) unit
          here = subst (λ (x : Weight). NoWorse (order 𝓐) (R i i) x) (rw (eq-eqb i i refl)) (r_is i i h h).last

      -- nor than what is applied along an arc
      f_arc : (k : ℕ) → k < n → F i ⊑ apply (A i k) (F k)
      f_arc k l = go (f_is k l).from
        where
          go : (F k ≡ empty) ⊎ ((v : ℕ) × (v < n) × (F k ≡ apply (R k v) (M v d))) → F i ⊑ apply (A i k) (F k)
          go (inl e) = rw (e, 𝓢.apply_empty (A i k) (arcs_valid i k h l)) (f_is i h).last
          go (inr (v, o, e)) =
              rw (e, ← (𝓢.apply_join (A i k) (R k v) (M v d) (arcs_valid i k h l) (r_valid k v l o) (m_valid v d o hd)))
              (trans ((f_is i h).each v o) (nw_weights 𝓐 𝓜 𝓢 ((r_is i v h o).each k l) (m_valid v d o hd)))

      f_upto : (G i ≡ M i d) ⊎ ((k : ℕ) × (k < n) × (G i ≡ along i k)) → F i ⊑ G i
      unfolding along
      f_upto (inl e) = rw e f_home
      f_upto (inr (k, l, e)) = rw e (f_arc k l)

      g_upto : (F i ≡ empty) ⊎ ((v : ℕ) × (v < n) × (F i ≡ apply (R i v) (M v d))) → G i ⊑ F i
      unfolding along
      g_upto (inl e) = rw e (nw_empty 𝓐 𝓜 𝓢 (g_is i h).last.left)
      g_upto (inr (v, o, e)) = rw e (go (r_is i v h o).from)
        where
          go : (R i v ≡ fresh 𝓐 i v) ⊎ ((k : ℕ) × (k < n) × (R i v ≡ join (A i k) (R k v))) → G i ⊑ apply (R i v) (M v d)
          go (inl f) = rw f (home (eqb i v) refl)
            where
              home : (b : Bool) → eqb i v ≡ b → G i ⊑ apply (cond b unit none) (M v d)
              home true q = rw (𝓢.apply_unit (M v d) (m_valid v d o hd)) (subst (λ (x : ℕ). G i ⊑ M x d) (eqb-true i v q) (g_is i h).last)
              home false q = rw (𝓢.apply_none (M v d) (m_valid v d o hd)) (nw_empty 𝓐 𝓜 𝓢 (g_is i h).last.left)
          go (inr (k, l, f)) =
              rw (f, 𝓢.apply_join (A i k) (R k v) (M v d) (arcs_valid i k h l) (r_valid k v l o) (m_valid v d o hd))
              (trans ((g_is i h).each k l) (nw_entries 𝓐 𝓜 𝓢 (arcs_valid i k h l) ((f_is k l).each v o)))

      equation : forwarded 𝓐 𝓜 n R M i d ≡ onward 𝓐 𝓜 n A M (forwarded 𝓐 𝓜 n R M) i d
      unfolding F G
      equation = nw_antisym entries 𝓢.ordered (f_upto (g_is i h).from) (g_upto (f_is i h).from)

  -- When R = (A join R) best fresh, F = (A applied to F) best M.
  pub forwarding : Forwards 𝓐 𝓜 n m A M (forwarded 𝓐 𝓜 n R M)
  forwarding i d h l = equation d l i h

-- ---- where R holds the best weights

end_below : (n i : ℕ) (p : List ℕ) → Below n (i ∷ p) → end i p < n
end_below n i [] b = b.0
end_below n i (k ∷ p) b = end_below n k p b.1

module _ (N : Network) (𝓜 : Mode N.𝓐) (𝓢 : SemiModule N.𝓐 𝓜) (m : ℕ) (M : Table N.𝓐 𝓜) (m_valid : ValidTable N.𝓐 𝓜 N.n m M) where
  open N use {𝓐, n, A}
  open 𝓐 use {Weight, Valid}
  open 𝓜 use {entries, empty, apply}

  module _ (R : Matrix 𝓐) (b : (i j : ℕ) → i < n → j < n → Best 𝓐 n A i j (R i j)) where
    r_valid : ValidMatrix 𝓐 n R
    r_valid i j h l = held_valid N (b i j h l).held

    -- F(i,d) is the best over k and over the paths from i to k of the path's weight applied to M(k,d)
    pub forwarded_best : (i d : ℕ) → i < n → d < m → BestForwarded 𝓐 𝓜 n A M i d (forwarded 𝓐 𝓜 n R M i d)
    forwarded_best i d h l = record { held = start (forwarded 𝓐 𝓜 n R M i d) F.from; unbeaten = below }
      where
        F : Chosen entries 𝓢.ordered n (carried 𝓐 𝓜 R M i d) empty (forwarded 𝓐 𝓜 n R M i d)
        F = forwarded_is 𝓐 𝓜 𝓢 n m R r_valid M m_valid i d h l

        start : (e : entries.Thing) → (e ≡ empty) ⊎ ((k : ℕ) × (k < n) × (e ≡ apply (R i k) (M k d))) → (e ≡ empty) ⊎ ((k : ℕ) × (p : List ℕ) × Simple n i k p × (e ≡ apply (path_weight 𝓐 A i p) (M k d)))
        start e (inl f) = inl f
        start e (inr (k, o, f)) = at (b i k h o).held
          where
            at : OfSimplePath 𝓐 n A i k (R i k) → (e ≡ empty) ⊎ ((v : ℕ) × (p : List ℕ) × Simple n i v p × (e ≡ apply (path_weight 𝓐 A i p) (M v d)))
            at (inl z) = inl (f ∙ ap (λ (x : Weight). apply x (M k d)) z ∙ 𝓢.apply_none (M k d) (m_valid k d o l))
            at (inr (p, s, z)) = inr (k, p, s, f ∙ ap (λ (x : Weight). apply x (M k d)) (sym z))

        below : (k : ℕ) (p : List ℕ) → Simple n i k p → entries.better (apply (path_weight 𝓐 A i p) (M k d)) (forwarded 𝓐 𝓜 n R M i d) ≡ false
        below k p s = (nw_trans entries 𝓢.ordered (F.each k o) (nw_weights 𝓐 𝓜 𝓢 record { left = r_valid i k h o; right = simple_valid N s; test = (b i k h o).unbeaten p s } (m_valid k d o l))).test
          where
            o : k < n
            o = subst (λ (x : ℕ). x < n) s.ends (end_below n i p s.below)
