-- The enumeration `simple_paths` holds exactly the paths that visit no node twice.
use Prim.Native.Nat.{ℕ, zero, suc, ◌≤◌, ◌<◌}
use mathlib.Core.Path.{◌≡◌, refl, ap, subst}
use mathlib.Core.Bool.{Bool, true, false, cond, ◌||◌, true≢false}
use mathlib.Core.Logic.{◌⊎◌, inl, inr}
use mathlib.Core.List.{List, [], ◌∷◌, ◌++◌, map}
use lib.ListN.{length}
use lib.Dec.{eqb}
use borrow.Author.Tests.{eqb-true, eqb-false, eq-eqb, ne_eqb}
use native.Mathlib.Omega.{arith}
use Rattle.algebra.specs.Path.{Mem, Below, Distinct, end, Simple}
use Rattle.algebra.specs.Best.{is_in, for_each, simple_paths}
use Rattle.algebra.proofs.Orders.{below_suc}
use Rattle.algebra.proofs.Paths.{simple_short}

-- lists and membership
pub mem_left : {A : Type 0} (a : A) (s t : List A) → Mem a s → Mem a (s ++ t)
mem_left a [] t m = absurd m
mem_left a (b ∷ s) t (inl e) = inl e
mem_left a (b ∷ s) t (inr m) = inr (mem_left a s t m)

pub mem_right : {A : Type 0} (a : A) (s t : List A) → Mem a t → Mem a (s ++ t)
mem_right a [] t m = m
mem_right a (b ∷ s) t m = inr (mem_right a s t m)

mem_cases : {A : Type 0} (a : A) (s t : List A) → Mem a (s ++ t) → Mem a s ⊎ Mem a t
mem_cases a [] t m = inr m
mem_cases a (b ∷ s) t (inl e) = inl (inl e)
mem_cases a (b ∷ s) t (inr m) = go (mem_cases a s t m)
  where
    go : Mem a s ⊎ Mem a t → Mem a (b ∷ s) ⊎ Mem a t
    go (inl h) = inl (inr h)
    go (inr h) = inr h

mem_map : {A B : Type 0} (f : A → B) (a : A) (l : List A) → Mem a l → Mem (f a) (map f l)
mem_map {A = A} {B = B} f a [] m = elim m [ ]
mem_map f a (b ∷ l) (inl e) = inl (ap f e)
mem_map f a (b ∷ l) (inr m) = inr (mem_map f a l m)

mem_unmap : {A B : Type 0} (f : A → B) (b : B) (l : List A) → Mem b (map f l) → (a : A) × Mem a l × (b ≡ f a)
mem_unmap {A = A} {B = B} f b [] m = elim m [ ]
mem_unmap f b (c ∷ l) (inl e) = (c, inl refl, e)
mem_unmap f b (c ∷ l) (inr m) = let r = mem_unmap f b l m in (r.0, inr r.1, r.2)

mem_each : {A : Type 0} (a : A) (n : ℕ) (f : ℕ → List A) (k : ℕ) → k < n → Mem a (f k) → Mem a (for_each n f)
mem_each a zero f k h m = absurd (omega arith)
mem_each a (suc n) f k h m = go (below_suc k n h) (λ l. mem_each a n f k l m)
  where
    go : (k < n) ⊎ (k ≡ n) → (k < n → Mem a (for_each n f)) → Mem a (for_each n f ++ f n)
    go (inl l) ih = mem_left a (for_each n f) (f n) (ih l)
    go (inr e) ih = mem_right a (for_each n f) (f n) (subst (λ (x : ℕ). Mem a (f x)) e m)

each_mem : {A : Type 0} (a : A) (n : ℕ) (f : ℕ → List A) → Mem a (for_each n f) → (k : ℕ) × (k < n) × Mem a (f k)
each_mem a zero f m = absurd m
each_mem a (suc n) f m = go (mem_cases a (for_each n f) (f n) m) (λ h. each_mem a n f h)
  where
    go : Mem a (for_each n f) ⊎ Mem a (f n) → (Mem a (for_each n f) → (k : ℕ) × (k < n) × Mem a (f k)) → (k : ℕ) × (k < suc n) × Mem a (f k)
    go (inl h) ih = let r = ih h in (r.0, omega (arith, r.1), r.2)
    go (inr h) ih = (n, omega arith, h)

or_false : (x y : Bool) → (x || y) ≡ false → (x ≡ false) × (y ≡ false)
or_false true y e = absurd (true≢false e)
or_false false y e = (refl, e)

is_in_false : (a : ℕ) (l : List ℕ) → is_in a l ≡ false → ¬ Mem a l
is_in_false a [] e m = m
is_in_false a (b ∷ l) e (inl m) = eqb-false a b (or_false (eqb a b) (is_in a l) e).0 m
is_in_false a (b ∷ l) e (inr m) = is_in_false a l (or_false (eqb a b) (is_in a l) e).1 m

is_in_none : (a : ℕ) (l : List ℕ) → ¬ Mem a l → is_in a l ≡ false
is_in_none a [] f = refl
is_in_none a (b ∷ l) f = rw (ne_eqb a b (λ e. f (inl e))) (is_in_none a l (λ m. f (inr m)))

-- The enumeration holds exactly the paths that go on from i to j, past the nodes seen.
record Onward (n : ℕ) (seen : List ℕ) (i j : ℕ) (p : List ℕ) : Type 0 where
  ends : end i p ≡ j
  below : Below n p
  distinct : Distinct p
  off : (a : ℕ) → Mem a (i ∷ seen) → ¬ Mem a p

mem_stop : (i j : ℕ) (p : List ℕ) → Mem p (cond (eqb i j) ([] ∷ []) []) → (p ≡ []) × (i ≡ j)
mem_stop i j p = go (eqb i j) refl
  where
    go : (b : Bool) → eqb i j ≡ b → Mem p (cond b ([] ∷ []) []) → (p ≡ []) × (i ≡ j)
    go true e (inl h) = (h, eqb-true i j e)
    go true e (inr h) = absurd h
    go false e h = absurd h

stop_mem : (i j : ℕ) → i ≡ j → Mem {A = List ℕ} [] (cond (eqb i j) ([] ∷ []) [])
stop_mem i j e = rw (eq-eqb i j e) (inl refl)

mem_go : (k : ℕ) (l : List ℕ) (ps : List (List ℕ)) (p : List ℕ) → Mem p (cond (is_in k l) [] (map (k ∷◌) ps)) → (¬ Mem k l) × ((q : List ℕ) × Mem q ps × (p ≡ k ∷ q))
mem_go k l ps p = go (is_in k l) refl
  where
    go : (b : Bool) → is_in k l ≡ b → Mem p (cond b [] (map (k ∷◌) ps)) → (¬ Mem k l) × ((q : List ℕ) × Mem q ps × (p ≡ k ∷ q))
    go true e h = absurd h
    go false e h = (is_in_false k l e, mem_unmap (k ∷◌) p ps h)

go_mem : (k : ℕ) (l : List ℕ) (ps : List (List ℕ)) (q : List ℕ) → ¬ Mem k l → Mem q ps → Mem (k ∷ q) (cond (is_in k l) [] (map (k ∷◌) ps))
go_mem k l ps q f m = rw (is_in_none k l f) (mem_map (k ∷◌) q ps m)

onward_stop : (n : ℕ) (seen : List ℕ) (i j : ℕ) (p : List ℕ) → (p ≡ []) × (i ≡ j) → Onward n seen i j p
onward_stop n seen i j p (e, h) = rw e record { ends = h; below = tt; distinct = tt; off = λ a m f. f }

onward_go : (n : ℕ) (seen : List ℕ) (i j k : ℕ) (q : List ℕ) → k < n → ¬ Mem k (i ∷ seen) → Onward n (i ∷ seen) k j q → Onward n seen i j (k ∷ q)
onward_go n seen i j k q h f o = record {
  ends = o.ends;
  below = (h, o.below);
  distinct = (o.off k (inl refl), o.distinct);
  off = clear;
}
  where
    clear : (a : ℕ) → Mem a (i ∷ seen) → ¬ Mem a (k ∷ q)
    clear a m (inl e) = f (subst (λ (x : ℕ). Mem x (i ∷ seen)) e m)
    clear a m (inr g) = o.off a (inr m) g

sound : (n m : ℕ) (seen : List ℕ) (i j : ℕ) (p : List ℕ) → Mem p (simple_paths n m seen i j) → Onward n seen i j p
sound n zero seen i j p h = onward_stop n seen i j p (mem_stop i j p h)
sound n (suc m) seen i j p h = go (mem_cases p (cond (eqb i j) ([] ∷ []) []) _ h) (λ k. sound n m (i ∷ seen) k j)
  where
    go : Mem p (cond (eqb i j) ([] ∷ []) []) ⊎ Mem p (for_each n (λ k. cond (is_in k (i ∷ seen)) [] (map (k ∷◌) (simple_paths n m (i ∷ seen) k j)))) →
        ((k : ℕ) (q : List ℕ) → Mem q (simple_paths n m (i ∷ seen) k j) → Onward n (i ∷ seen) k j q) → Onward n seen i j p
    go (inl g) ih = onward_stop n seen i j p (mem_stop i j p g)
    go (inr g) ih =
        let (k, l, g₁) = each_mem p n (λ k. cond (is_in k (i ∷ seen)) [] (map (k ∷◌) (simple_paths n m (i ∷ seen) k j))) g in
        let (f, (q, g₂, e)) = mem_go k (i ∷ seen) (simple_paths n m (i ∷ seen) k j) p g₁ in
        rw e (onward_go n seen i j k q l f (ih k q g₂))

complete : (n m : ℕ) (seen : List ℕ) (i j : ℕ) (p : List ℕ) → length p ≤ m → Onward n seen i j p → Mem p (simple_paths n m seen i j)
complete n zero seen i j [] h o = stop_mem i j o.ends
complete n zero seen i j (k ∷ q) h o = absurd (omega arith)
complete n (suc m) seen i j [] h o = mem_left [] (cond (eqb i j) ([] ∷ []) []) _ (stop_mem i j o.ends)
complete n (suc m) seen i j (k ∷ q) h o =
    mem_right (k ∷ q) (cond (eqb i j) ([] ∷ []) []) _
    (mem_each (k ∷ q) n (λ k. cond (is_in k (i ∷ seen)) [] (map (k ∷◌) (simple_paths n m (i ∷ seen) k j))) k o.below.0
    (go_mem k (i ∷ seen) (simple_paths n m (i ∷ seen) k j) q (λ g. o.off k g (inl refl))
    (complete n m (i ∷ seen) k j q (omega arith) record { ends = o.ends; below = o.below.1; distinct = o.distinct.1; off = clear })))
  where
    clear : (a : ℕ) → Mem a (k ∷ i ∷ seen) → ¬ Mem a q
    clear a (inl e) g = o.distinct.0 (subst (λ (x : ℕ). Mem x q) e g)
    clear a (inr f) g = o.off a f (inr g)

pub simple_paths_sound : (n i j : ℕ) (p : List ℕ) → i < n → Mem p (simple_paths n n [] i j) → Simple n i j p
simple_paths_sound n i j p h m =
    let o = sound n n [] i j p m in
    record { ends = o.ends; below = (h, o.below); distinct = (o.off i (inl refl), o.distinct) }

pub simple_paths_complete : (n i j : ℕ) (p : List ℕ) → Simple n i j p → Mem p (simple_paths n n [] i j)
simple_paths_complete n i j p s = complete n n [] i j p (omega (arith, simple_short s)) record { ends = s.ends; below = s.below.1; distinct = s.distinct.1; off = clear }
  where
    clear : (a : ℕ) → Mem a (i ∷ []) → ¬ Mem a p
    clear a (inl e) g = s.distinct.0 (subst (λ (x : ℕ). Mem x p) e g)
    clear a (inr f) g = f
