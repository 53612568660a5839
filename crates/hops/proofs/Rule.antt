-- What the rule means: the search gives k exactly when k is the next hop, and nothing exactly when there is none.
use Prim.Native.Nat.{ℕ, zero, suc, ◌+◌, ◌≤◌, ◌<◌}
use mathlib.Core.Path.{◌≡◌, refl, sym, ap, ◌∙◌}
use mathlib.Core.Bool.{Bool, true, false, cond, not, ◌&&◌, ◌||◌}
use mathlib.Core.List.{List}
use mathlib.Core.Logic.{◌⊎◌, inl, inr, ⊎_elim, ◌↔◌}
use Rattle.std.specs.Prelude.{Option, Some, None}
use native.Mathlib.Nat.{eq-or-lt_of_le}
use native.Mathlib.Omega.{arith}
use lib.Dec.{eqb, ltb}
use borrow.Author.Tests.{eq-eqb, ne_eqb, eqb-true, ltb-true, ltb-false}
use Rattle.weights.specs.declared.Component.{Component}
use Rattle.weights.specs.Weights.{none, join}
use Rattle.weights.specs.Values.{same}
use Rattle.weights.proofs.Compared.{same_exactly}
use Rattle.weights.proofs.Ordering.{clash}
use Rattle.matrices.specs.Steps.{Matrix}
use Rattle.hops.specs.NextHop.{is_hop, lowest_from, hop_of, ArcGivesWeight, NextHop}

-- ---- the lowest number that passes a test

nothing_some : {k : ℕ} → ◌≡◌ {A = Option ℕ} None (Some k) → ⊥
nothing_some e = let z : ◌≡◌ {A = ℕ} 0 1 = cc in omega arith

pub some_one : {k m : ℕ} → Some k ≡ Some m → k ≡ m
some_one e = cc

module _ (test : ℕ → Bool) where
  -- m is the lowest of the c numbers from k on that passes
  record Lowest (k c m : ℕ) : Type 0 where
    from : k ≤ m
    below : m < k + c
    passes : test m ≡ true
    earlier : (v : ℕ) → k ≤ v → v < m → test v ≡ false

  lowest_is : (k c m : ℕ) → lowest_from test k c ≡ Some m → Lowest k c m
  unfolding lowest_from
  lowest_is k zero m e = absurd (nothing_some e)
  lowest_is k (suc c) m e = go (test k) refl e (lowest_is (suc k) c m)
    where
      go : (b : Bool) → test k ≡ b → cond b (Some k) (lowest_from test (suc k) c) ≡ Some m → (lowest_from test (suc k) c ≡ Some m → Lowest (suc k) c m) → Lowest k (suc c) m
      go true p q ih = let z = some_one q in record { from = omega arith; below = omega arith; passes = ap test (sym z) ∙ p; earlier = λ v h l. absurd (omega arith) }
      go false p q ih =
          let o = ih q in
          let h = o.from in
          let l = o.below in
          record { from = omega arith; below = omega arith; passes = o.passes; earlier = λ v a b. at_first_lem v a (o.earlier v) b }
        where
          at_first_lem : (v : ℕ) → k ≤ v → (suc k ≤ v → v < m → test v ≡ false) → v < m → test v ≡ false
          at_first_lem v a later b = ⊎_elim (λ z. ap test (sym z) ∙ p) (λ l. later l b) (eq-or-lt_of_le a)

  nothing_is : (k c : ℕ) → lowest_from test k c ≡ None → (v : ℕ) → k ≤ v → v < k + c → test v ≡ false
  unfolding lowest_from
  nothing_is k zero e v a b = absurd (omega arith)
  nothing_is k (suc c) e v a b = go (test k) refl e (nothing_is (suc k) c)
    where
      go : (b : Bool) → test k ≡ b → cond b (Some k) (lowest_from test (suc k) c) ≡ None → (lowest_from test (suc k) c ≡ None → (v : ℕ) → suc k ≤ v → v < suc k + c → test v ≡ false) → test v ≡ false
      go true p q ih = absurd (nothing_some (sym q))
      go false p q ih = ⊎_elim (λ z. ap test (sym z) ∙ p) (λ l. ih q v l (omega arith)) (eq-or-lt_of_le a)

-- ---- the test of one k

module _ (cs : List Component) (n : ℕ) (A R : Matrix) (i j : ℕ) where
  test_is : (k : ℕ) → is_hop cs A R i j k ≡ true → (k ≡ i → ⊥) × (join cs (A i k) (R k j) ≡ R i j)
  test_is k e = go (eqb k i) refl e
    where
      go : (b : Bool) → eqb k i ≡ b → (not b && same (join cs (A i k) (R k j)) (R i j)) ≡ true → (k ≡ i → ⊥) × (join cs (A i k) (R k j) ≡ R i j)
      go true p q = clash false q refl
      go false p q = (λ z. clash true refl (sym (eq-eqb k i z) ∙ p), (same_exactly (join cs (A i k) (R k j)) (R i j)).0 q)

  is_test : (k : ℕ) → ArcGivesWeight cs n A R i j k → is_hop cs A R i j k ≡ true
  is_test k g = rw (ne_eqb k i g.other) ((same_exactly (join cs (A i k) (R k j)) (R i j)).1 g.gives)

  -- i = j, or R(i,j) is no route
  shut : (i ≡ j → ⊥) → (R i j ≡ none → ⊥) → (eqb i j || same (R i j) none) ≡ false
  shut f g = rw (ne_eqb i j f) (go (same (R i j) none) refl)
    where
      go : (b : Bool) → same (R i j) none ≡ b → b ≡ false
      go true e = absurd (g ((same_exactly (R i j) none).0 e))
      go false e = refl

  found : (k : ℕ) → hop_of cs n A R i j ≡ Some k → NextHop cs n A R i j k
  found k e = go (eqb i j) (same (R i j) none) refl refl e
    where
      go : (a b : Bool) → eqb i j ≡ a → same (R i j) none ≡ b → cond (a || b) None (lowest_from (is_hop cs A R i j) 0 n) ≡ Some k → NextHop cs n A R i j k
      go true b p q h = absurd (nothing_some h)
      go false true p q h = absurd (nothing_some h)
      go false false p q h =
          let o = lowest_is (is_hop cs A R i j) 0 n k h in
          let l = o.below in
          let t = test_is k o.passes in
          record {
            apart = λ z. clash true refl (sym (eq-eqb i j z) ∙ p);
            route = λ z. clash true refl (sym ((same_exactly (R i j) none).1 z) ∙ q);
            hop = record { below = omega arith; other = t.0; gives = t.1 };
            lowest = λ m less g. clash (is_hop cs A R i j m) (is_test m g) (o.earlier m (omega arith) less);
          }

  back : (k : ℕ) → NextHop cs n A R i j k → hop_of cs n A R i j ≡ Some k
  back k h = rw (shut h.apart h.route) (go (lowest_from (is_hop cs A R i j) 0 n) refl)
    where
      go : (o : Option ℕ) → lowest_from (is_hop cs A R i j) 0 n ≡ o → o ≡ Some k
      go None e = let l = h.hop.below in clash (is_hop cs A R i j k) (is_test k h.hop) (nothing_is (is_hop cs A R i j) 0 n e k (omega arith) (omega arith))
      go (Some m) e = ap Some (only (ltb m k) (ltb k m) refl refl)
        where
          o : Lowest (is_hop cs A R i j) 0 n m
          o = lowest_is (is_hop cs A R i j) 0 n m e

          under : m < k → m ≡ k
          under l = let b = o.below in let t = test_is m o.passes in absurd (h.lowest m l (record { below = omega arith; other = t.0; gives = t.1 }))

          over : k < m → m ≡ k
          over l = clash (is_hop cs A R i j k) (is_test k h.hop) (o.earlier k (omega arith) l)

          only : (a b : Bool) → ltb m k ≡ a → ltb k m ≡ b → m ≡ k
          only true b p q = under (ltb-true m k p)
          only false true p q = over (ltb-true k m q)
          only false false p q = omega (arith, ltb-false m k p, ltb-false k m q)

  -- The rule gives k exactly when k is the next hop.
  pub hop_exactly : (k : ℕ) → (hop_of cs n A R i j ≡ Some k) ↔ NextHop cs n A R i j k
  hop_exactly k = (found k, back k)

  -- None where i = j, where R(i,j) is no route, or where no such k exists.
  pub no_hop_exactly : (hop_of cs n A R i j ≡ None) ↔ ((i ≡ j) ⊎ (R i j ≡ none) ⊎ ((k : ℕ) → ArcGivesWeight cs n A R i j k → ⊥))
  no_hop_exactly = (λ e. there (eqb i j) (same (R i j) none) refl refl e, here)
    where
      there : (a b : Bool) → eqb i j ≡ a → same (R i j) none ≡ b → cond (a || b) None (lowest_from (is_hop cs A R i j) 0 n) ≡ None → (i ≡ j) ⊎ (R i j ≡ none) ⊎ ((k : ℕ) → ArcGivesWeight cs n A R i j k → ⊥)
      there true b p q h = inl (eqb-true i j p)
      there false true p q h = inr (inl ((same_exactly (R i j) none).0 q))
      there false false p q h = inr (inr (λ k g. let l = g.below in clash (is_hop cs A R i j k) (is_test k g) (nothing_is (is_hop cs A R i j) 0 n h k (omega arith) (omega arith))))

      here : (i ≡ j) ⊎ (R i j ≡ none) ⊎ ((k : ℕ) → ArcGivesWeight cs n A R i j k → ⊥) → hop_of cs n A R i j ≡ None
      here d = go (hop_of cs n A R i j) refl
        where
          go : (o : Option ℕ) → hop_of cs n A R i j ≡ o → o ≡ None
          go None e = refl
          go (Some k) e = let h = found k e in absurd (⊎_elim h.apart (⊎_elim h.route (λ f. f k h.hop)) d)
