-- There is one best weight over the paths that visit no node twice, and `best` computes it.
use Prim.Native.Nat.{ℕ, ◌<◌}
use mathlib.Core.Path.{◌≡◌, refl, sym, ◌∙◌, subst}
use mathlib.Core.Logic.{◌⊎◌, inl, inr}
use mathlib.Core.List.{List, [], ◌∷◌}
use Rattle.algebra.specs.Algebra.{order}
use Rattle.algebra.specs.Order.{pick}
use Rattle.algebra.specs.Path.{Mem, Simple, path_weight}
use Rattle.algebra.specs.Best.{OfSimplePath, Best, simple_paths, best_among, best}
use Rattle.algebra.proofs.Orders.{NoWorse, nw_trans, nw_antisym, Picked, pick_is}
use Rattle.algebra.specs.Network.{Network}
use Rattle.algebra.proofs.Joining.{nw_none}
use Rattle.algebra.proofs.Paths.{weight_valid}
use Rattle.algebra.proofs.Enumeration.{simple_paths_sound, simple_paths_complete}

module _ (N : Network) where
  open N use {𝓐, 𝓛, n, A, arcs_valid}
  open 𝓐 use {Weight, Valid, better, join, unit, none}

  infix 50 ◌≼◌
  abbrev ◌≼◌ : Weight → Weight → Type 0
  ◌≼◌ = NoWorse (order 𝓐)

  -- the weight of a simple path, or no route, is valid
  pub simple_valid : {i j : ℕ} {p : List ℕ} → Simple n i j p → Valid (path_weight 𝓐 A i p)
  simple_valid {i} {j} {p} s = weight_valid N i p s.below

  pub held_valid : {i j : ℕ} {w : Weight} → OfSimplePath 𝓐 n A i j w → Valid w
  held_valid (inl e) = rw e 𝓛.none_valid
  held_valid (inr (p, s, e)) = subst Valid e (simple_valid s)

  -- what is best is no worse than any simple path, and than all that is held
  pub best_nw : {i j : ℕ} {w : Weight} → Best 𝓐 n A i j w → (p : List ℕ) → Simple n i j p → w ≼ path_weight 𝓐 A i p
  best_nw b p s = record { left = held_valid b.held; right = simple_valid s; test = b.unbeaten p s }

  pub best_nw_held : {i j : ℕ} {w v : Weight} → Best 𝓐 n A i j w → OfSimplePath 𝓐 n A i j v → w ≼ v
  best_nw_held b (inl e) = rw e (nw_none 𝓐 𝓛 (held_valid b.held))
  best_nw_held {w} b (inr (p, s, e)) = subst (λ (x : Weight). w ≼ x) e (best_nw b p s)

  -- There is only one best weight.
  pub best_unique : {i j : ℕ} {w v : Weight} → Best 𝓐 n A i j w → Best 𝓐 n A i j v → w ≡ v
  best_unique b c = nw_antisym (order 𝓐) 𝓛.ordered (best_nw_held b c.held) (best_nw_held c b.held)

  record Among (i : ℕ) (ps : List (List ℕ)) (b : Weight) : Type 0 where
    valid : Valid b
    from : (b ≡ none) ⊎ ((p : List ℕ) × Mem p ps × (path_weight 𝓐 A i p ≡ b))
    each : (p : List ℕ) → Mem p ps → b ≼ path_weight 𝓐 A i p

  best_among_is : (i : ℕ) (ps : List (List ℕ)) → ((p : List ℕ) → Mem p ps → Valid (path_weight 𝓐 A i p)) → Among i ps (best_among 𝓐 A i ps)
  unfolding best_among
  best_among_is i [] oks = record { valid = 𝓛.none_valid; from = inl refl; each = λ p m. absurd m }
  best_among_is i (p ∷ ps) oks = more (best_among_is i ps (λ q m. oks q (inr m)))
    where
      w : Weight
      w = path_weight 𝓐 A i p

      r : Weight
      r = best_among 𝓐 A i ps

      more : Among i ps r → Among i (p ∷ ps) (pick (order 𝓐) r w)
      more a = record { valid = o.fst.left; from = source o.one a.from; each = each_of }
        where
          o : Picked (order 𝓐) 𝓛.ordered r w (pick (order 𝓐) r w)
          o = pick_is (order 𝓐) 𝓛.ordered r w a.valid (oks p (inl refl))

          source : {b : Weight} → (b ≡ r) ⊎ (b ≡ w) → (r ≡ none) ⊎ ((q : List ℕ) × Mem q ps × (path_weight 𝓐 A i q ≡ r)) → (b ≡ none) ⊎ ((q : List ℕ) × Mem q (p ∷ ps) × (path_weight 𝓐 A i q ≡ b))
          source (inr e) f = inr (p, inl refl, sym e)
          source (inl e) (inl f) = inl (e ∙ f)
          source (inl e) (inr (q, m, f)) = inr (q, inr m, f ∙ sym e)

          each_of : (q : List ℕ) → Mem q (p ∷ ps) → pick (order 𝓐) r w ≼ path_weight 𝓐 A i q
          each_of q (inl e) = rw e o.snd
          each_of q (inr m) = nw_trans (order 𝓐) 𝓛.ordered o.fst (a.each q m)

  -- What is computed is the best.
  pub best_is : (i j : ℕ) → i < n → Best 𝓐 n A i j (best 𝓐 n A i j)
  unfolding best
  best_is i j h = record { held = from a.from; unbeaten = λ p s. (a.each p (simple_paths_complete n i j p s)).test }
    where
      a : Among i (simple_paths n n [] i j) (best_among 𝓐 A i (simple_paths n n [] i j))
      a = best_among_is i (simple_paths n n [] i j) (λ p m. simple_valid (simple_paths_sound n i j p h m))

      from : {b : Weight} → (b ≡ none) ⊎ ((p : List ℕ) × Mem p (simple_paths n n [] i j) × (path_weight 𝓐 A i p ≡ b)) → OfSimplePath 𝓐 n A i j b
      from (inl e) = inl e
      from (inr (p, m, e)) = inr (p, simple_paths_sound n i j p h m, e)
