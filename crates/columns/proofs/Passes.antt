-- Passes over a column: each is a sweep of the matrix seen from one column, so n - 1 of them over the fresh column make the best weights.
use Prim.Native.Nat.{ℕ, zero, suc, ◌+◌, ◌*◌, ◌-◌, ◌≤◌, ◌<◌}
use mathlib.Core.Path.{◌≡◌, refl, sym, ap, ap₂, ◌∙◌, subst}
use mathlib.Core.Bool.{Bool, true, false, cond}
use mathlib.Core.List.{List, [], ◌∷◌, ◌++◌}
use native.Mathlib.Nat.{zero-add, suc-add, suc-mul}
use native.Mathlib.Numerals.{add-one}
use native.Mathlib.Omega.{arith}
use borrow.Author.Tests.{eqb-true, eqb-false, ne_eqb, eq-eqb}
use lib.Dec.{eqb}
use lib.ListN.{length, take, drop, length-append, length-drop}
use lib.Seq.{drop_at}
use Rattle.algebra.specs.Algebra.{order}
use Rattle.algebra.specs.Order.{best_of}
use Rattle.algebra.specs.Best.{best}
use Rattle.algebra.specs.Step.{row, settle, fresh, routed, step, run, reached, sweep, sweeps}
use Rattle.algebra.proofs.Orders.{best_of_same}
use Rattle.algebra.proofs.Reach.{run_append}
use Rattle.algebra.proofs.Settling.{best_by_sweeps}
use Rattle.weights.specs.declared.Component.{Component}
use Rattle.weights.specs.declared.PerPlace.{PerPlace}
use Rattle.weights.specs.Sizes.{places, weight_words, arc_sum, matrix_sum}
use Rattle.weights.specs.Weights.{Weight, none, join, better_of, unit, language}
use Rattle.weights.specs.Languages.{places_of}
use Rattle.weights.specs.Words.{words}
use Rattle.matrices.specs.Buffers.{row_words, matrix_words, row_in, matrix_in}
use Rattle.matrices.specs.Steps.{Matrix, GivenArcs}
use Rattle.columns.specs.Columns.{column, via, renewed, passed, set_column, Held}
use Rattle.matrices.proofs.Blocks.{front_put, blocks_cong}
use Rattle.matrices.proofs.Entries.{length_words, length_row, row_cong, row_reads, matrix_cong}
use Rattle.matrices.proofs.Bounds.{Within, within_weaken, within_join, within_best, within_fresh, formed_within, within_back}
use Rattle.matrices.proofs.Sums.{network, reached_within, best_within}

-- ---- columns that agree

pub renewed_cong : (cs : List Component) (n : ℕ) (A : Matrix) (j : ℕ) (c d : ℕ → Weight) → ((k : ℕ) → k < n → c k ≡ d k) → (i : ℕ) → renewed cs n A j c i ≡ renewed cs n A j d i
renewed_cong cs n A j c d e i = best_of_same (order (language cs)) n (via cs A c i) (via cs A d i) (fresh (language cs) i j) (λ k h. ap (join cs (A i k)) (e k h))

passed_cong : (cs : List Component) (n : ℕ) (A : Matrix) (j m : ℕ) (c d : ℕ → Weight) → ((k : ℕ) → k < n → c k ≡ d k) → (i : ℕ) → i < n → passed cs n A j m c i ≡ passed cs n A j m d i
unfolding passed
passed_cong cs n A j zero c d e i h = e i h
passed_cong cs n A j (suc m) c d e i h =
    ap₂ (cond (eqb i m)) (renewed_cong cs n A j (passed cs n A j m c) (passed cs n A j m d) (λ k hk. passed_cong cs n A j m c d e k hk) i) (passed_cong cs n A j m c d e i h)

-- a pass over column j is column j of the row steps
column_is : (cs : List Component) (n : ℕ) (A : Matrix) (j m : ℕ) (R : Matrix) (i : ℕ) → passed cs n A j m (column R j) i ≡ run (language cs) n A (sweep m) R i j
unfolding passed routed
column_is cs n A j zero R i = refl
column_is cs n A j (suc m) R i =
    ap₂ (cond (eqb i m)) (renewed_cong cs n A j (passed cs n A j m (column R j)) (column before j) (λ k hk. column_is cs n A j m R k) i ∙ is_routed) (column_is cs n A j m R i)
    ∙ sym (ap (λ (S : Matrix). S i j) (run_append (language cs) n A (sweep m) (row m ∷ []) R))
  where
    before : Matrix
    before = run (language cs) n A (sweep m) R

    is_routed : renewed cs n A j (column before j) i ≡ routed (language cs) n A before i j
    is_routed = refl

-- ---- one entry, arc by arc

pub renewed_none : (cs : List Component) (f : ℕ → Weight) (w : Weight) → w ≡ best_of (order (language cs)) 0 f w
unfolding best_of
renewed_none cs f w = refl

pub renewed_more : (cs : List Component) (A : Matrix) (c : ℕ → Weight) (i : ℕ) (z : Weight) (k : ℕ) (acc x v : Weight) → v ≡ better_of cs acc (join cs x (c k)) → x ≡ A i k
    → acc ≡ best_of (order (language cs)) k (via cs A c i) z → v ≡ best_of (order (language cs)) (k + 1) (via cs A c i) z
unfolding best_of
renewed_more cs A c i z k acc x v e p q = rw add-one (e ∙ ap₂ (λ (m y : Weight). better_of cs m (join cs y (c k))) q p)

pub renewed_all : (cs : List Component) (f : ℕ → Weight) (v z z' : Weight) (k n : ℕ) → v ≡ best_of (order (language cs)) k f z → k ≡ n → z ≡ z' → v ≡ best_of (order (language cs)) n f z'
renewed_all cs f v z z' k n e p q = e ∙ ap₂ (λ (m : ℕ) (w : Weight). best_of (order (language cs)) m f w) p q

-- ---- the rounds of a pass

-- the first m rows of the column s₀ have been passed
pub record Passing (p : PerPlace Component) (n : ℕ) (a : List ℕ) (j : ℕ) (s₀ : List ℕ) (m : ℕ) (s : List ℕ) : Type 0 where
  pub holds : s ≡ row_words n (passed (places_of p) n (matrix_in places n a) j m (row_in places s₀)) ++ drop (n * weight_words) s₀
  pub long : length s ≡ length s₀

pub passing_none : (p : PerPlace Component) (n : ℕ) (a : List ℕ) (j : ℕ) (s : List ℕ) → s ≡ row_words n (row_in places s) ++ drop (n * weight_words) s → Passing p n a j s 0 s
unfolding passed
passing_none p n a j s h = record { holds = h; long = refl }

pub passing_all : (p : PerPlace Component) (n : ℕ) (a : List ℕ) (j : ℕ) (s₀ : List ℕ) (m : ℕ) (s : List ℕ) → Passing p n a j s₀ m s → m ≡ n
    → s ≡ row_words n (passed (places_of p) n (matrix_in places n a) j n (row_in places s₀)) ++ drop (n * weight_words) s₀
passing_all p n a j s₀ m s t e = t.holds ∙ ap (λ (v : ℕ). row_words n (passed (places_of p) n (matrix_in places n a) j v (row_in places s₀)) ++ drop (n * weight_words) s₀) e

module _ (p : PerPlace Component) (n : ℕ) (a : List ℕ) (g : GivenArcs (places_of p) n a) (j : ℕ) where
  renewed_within : (b : ℕ) (c : ℕ → Weight) → ((k : ℕ) → k < n → Within b (places_of p) (c k)) → (i : ℕ) → i < n → Within (arc_sum + b) (places_of p) (renewed (places_of p) n (matrix_in places n a) j c i)
  renewed_within b c h i hi =
      within_best (arc_sum + b) (places_of p) n (via (places_of p) (matrix_in places n a) c i) (fresh (language (places_of p)) i j)
      (within_weaken arc_sum (arc_sum + b) (places_of p) _ (omega arith) (within_fresh arc_sum (places_of p) g.sound g.limits i j))
      (λ k hk. within_join arc_sum b (places_of p) _ _ (formed_within arc_sum p n a (omega arith) g.limits g.arcs i k hi hk) (h k hk))

  -- a row step adds at most an arc
  passed_within : (b m : ℕ) (c : ℕ → Weight) → ((k : ℕ) → k < n → Within b (places_of p) (c k)) → (i : ℕ) → i < n
      → Within (m * arc_sum + b) (places_of p) (passed (places_of p) n (matrix_in places n a) j m c i)
  unfolding passed
  passed_within b zero c h i hi = within_weaken b (zero * arc_sum + b) (places_of p) (c i) (omega arith) (h i hi)
  passed_within b (suc m) c h i hi = go (eqb i m) (λ k hk. passed_within b m c h k hk)
    where
      go : (t : Bool) → ((k : ℕ) → k < n → Within (m * arc_sum + b) (places_of p) (passed (places_of p) n (matrix_in places n a) j m c k))
          → Within (suc m * arc_sum + b) (places_of p) (cond t (renewed (places_of p) n (matrix_in places n a) j (passed (places_of p) n (matrix_in places n a) j m c) i) (passed (places_of p) n (matrix_in places n a) j m c i))
      go true ih = within_weaken (arc_sum + (m * arc_sum + b)) (suc m * arc_sum + b) (places_of p) _ (omega (arith, suc-mul m arc_sum)) (renewed_within (m * arc_sum + b) (passed (places_of p) n (matrix_in places n a) j m c) ih i hi)
      go false ih = within_weaken (m * arc_sum + b) (suc m * arc_sum + b) (places_of p) _ (omega (arith, suc-mul m arc_sum)) (ih i hi)

  module _ (s₀ : List ℕ) (h : Held matrix_sum (places_of p) n s₀) where
    start : (k : ℕ) → k < n → Within matrix_sum (places_of p) (row_in places s₀ k)
    start k hk = record { valid = h.valid k hk; most = h.small k hk }

    passing_entry : (m : ℕ) (s : List ℕ) → m ≤ n → Passing p n a j s₀ m s → (i : ℕ) → i < n → row_in places s i ≡ passed (places_of p) n (matrix_in places n a) j m (row_in places s₀) i
    passing_entry m s hm t i hi =
        let few : n ≤ 16 = g.arcs.square.few in
        ap (λ (l : List ℕ). row_in places l i) t.holds
        ∙ row_reads n (passed (places_of p) n (matrix_in places n a) j m (row_in places s₀)) (drop (n * weight_words) s₀) i hi
        (within_back p (m * arc_sum + matrix_sum) _ (omega arith) (passed_within matrix_sum m (row_in places s₀) start i hi))

    -- what the column holds within a pass can be joined
    pub passing_held : (m : ℕ) (s : List ℕ) → m ≤ n → Passing p n a j s₀ m s → Held 2147483647 (places_of p) n s
    passing_held m s hm t = record { room = omega (arith, h.room, t.long); valid = λ i hi. (one i hi).valid; small = λ i hi. (one i hi).most }
      where
        one : (i : ℕ) → i < n → Within 2147483647 (places_of p) (row_in places s i)
        one i hi =
            let few : n ≤ 16 = g.arcs.square.few in
            subst (Within 2147483647 (places_of p)) (sym (passing_entry m s hm t i hi))
            (within_weaken (m * arc_sum + matrix_sum) 2147483647 (places_of p) _ (omega arith) (passed_within matrix_sum m (row_in places s₀) start i hi))

    pub passing_more : (m : ℕ) (s s' : List ℕ) (w : Weight) → m < n → Passing p n a j s₀ m s → w ≡ renewed (places_of p) n (matrix_in places n a) j (row_in places s) m
        → s' ≡ take (m * weight_words) s ++ (words w ++ drop weight_words (drop (m * weight_words) s)) → Passing p n a j s₀ (m + 1) s'
    unfolding passed
    passing_more m s s' w hm t e q = record {
      holds = now_is;
      long = ap length now_is ∙ length-append (row_words n next) (drop (n * weight_words) s₀) ∙ omega (arith, length_row n next, length-drop (n * weight_words) s₀, h.room);
    }
      where
        was : ℕ → Weight
        was = passed (places_of p) n (matrix_in places n a) j m (row_in places s₀)

        next : ℕ → Weight
        next = passed (places_of p) n (matrix_in places n a) j (m + 1) (row_in places s₀)

        e' : w ≡ renewed (places_of p) n (matrix_in places n a) j was m
        e' = e ∙ renewed_cong (places_of p) n (matrix_in places n a) j (row_in places s) was (λ k hk. passing_entry m s (omega arith) t k hk) m

        one : (i : ℕ) (b : Bool) → eqb i m ≡ b → cond b (words w) (words (was i)) ≡ words (cond b (renewed (places_of p) n (matrix_in places n a) j was i) (was i))
        one i true r = ap words (e' ∙ ap (renewed (places_of p) n (matrix_in places n a) j was) (sym (eqb-true i m r)))
        one i false r = refl

        now_is : s' ≡ row_words n next ++ drop (n * weight_words) s₀
        now_is =
            q ∙ ap (λ (l : List ℕ). take (m * weight_words) l ++ (words w ++ drop weight_words (drop (m * weight_words) l))) t.holds
            ∙ front_put weight_words (λ i. words (was i)) (λ i. length_words (was i)) (words w) n m (drop (n * weight_words) s₀) hm
            ∙ ap (λ (l : List ℕ). l ++ drop (n * weight_words) s₀)
            (blocks_cong _ _ n (λ i _. one i (eqb i m) refl) ∙ row_cong n _ _ (λ i _. ap (λ (v : ℕ). passed (places_of p) n (matrix_in places n a) j v (row_in places s₀) i) (sym (add-one m))))

-- ---- the passes

eqb_sym : (i j : ℕ) → eqb i j ≡ eqb j i
eqb_sym i j = go (eqb i j) refl
  where
    go : (b : Bool) → eqb i j ≡ b → eqb i j ≡ eqb j i
    go true e = e ∙ sym (eq-eqb j i (sym (eqb-true i j e)))
    go false e = e ∙ sym (ne_eqb j i (λ q. eqb-false i j e (sym q)))

fresh_sym : (cs : List Component) (i j : ℕ) → fresh (language cs) i j ≡ fresh (language cs) j i
fresh_sym cs i j = ap (λ (b : Bool). cond b (unit cs) none) (eqb_sym i j)

-- the matrix after k sweeps of the fresh one
abbrev pub swept : PerPlace Component → ℕ → List ℕ → ℕ → Matrix
swept p n a k = reached (language (places_of p)) n (matrix_in places n a) (sweeps n k)

-- k passes have been made, and column j of k sweeps stands over s₀
pub record Settling (p : PerPlace Component) (n : ℕ) (a : List ℕ) (j : ℕ) (s₀ : List ℕ) (k : ℕ) (s : List ℕ) : Type 0 where
  pub holds : s ≡ row_words n (column (swept p n a k) j) ++ drop (n * weight_words) s₀
  pub long : length s ≡ length s₀

pub settling_none : (p : PerPlace Component) (n : ℕ) (a : List ℕ) (j : ℕ) (s₀ s z : List ℕ) → s ≡ row_words n (fresh (language (places_of p)) j) ++ z → s₀ ≡ s → Settling p n a j s₀ 0 s
settling_none p n a j s₀ s z e q = record {
  holds = e ∙ ap₂ (λ (x y : List ℕ). x ++ y) (row_cong n (fresh (language (places_of p)) j) (column (fresh (language (places_of p))) j) (λ i _. fresh_sym (places_of p) j i))
      (sym (ap (drop (n * weight_words)) (q ∙ e) ∙ drop_at (row_words n (fresh (language (places_of p)) j)) z (n * weight_words) (length_row n _)));
  long = ap length (sym q);
}

pub settling_next : (p : PerPlace Component) (n : ℕ) (a : List ℕ) (j : ℕ) (s₀ : List ℕ) (t : ℕ) (s : List ℕ) → 1 ≤ t → Settling p n a j s₀ (suc (t - 1)) s → Settling p n a j s₀ (t + 1 - 1) s
settling_next p n a j s₀ t s h r = let e : suc (t - 1) ≡ t + 1 - 1 = omega arith in subst (λ (k : ℕ). Settling p n a j s₀ k s) e r

module _ (p : PerPlace Component) (n : ℕ) (a : List ℕ) (g : GivenArcs (places_of p) n a) (j : ℕ) where
  module _ (s₀ : List ℕ) (room : n * weight_words ≤ length s₀) where
    settling_entry : (k : ℕ) (s : List ℕ) → Settling p n a j s₀ k s → (i : ℕ) → i < n → row_in places s i ≡ column (swept p n a k) j i
    settling_entry k s t i hi =
        ap (λ (l : List ℕ). row_in places l i) t.holds
        ∙ row_reads n (column (swept p n a k) j) (drop (n * weight_words) s₀) i hi (within_back p matrix_sum _ (omega arith) (reached_within p n a g (sweeps n k) i j hi))

    pub settling_held : (k : ℕ) (s : List ℕ) → Settling p n a j s₀ k s → Held matrix_sum (places_of p) n s
    settling_held k s t = record { room = omega (arith, t.long); valid = λ i hi. (one i hi).valid; small = λ i hi. (one i hi).most }
      where
        one : (i : ℕ) → i < n → Within matrix_sum (places_of p) (row_in places s i)
        one i hi = subst (Within matrix_sum (places_of p)) (sym (settling_entry k s t i hi)) (reached_within p n a g (sweeps n k) i j hi)

    pub settling_more : (k : ℕ) (s s' : List ℕ) → Settling p n a j s₀ k s → s' ≡ row_words n (passed (places_of p) n (matrix_in places n a) j n (row_in places s)) ++ drop (n * weight_words) s
        → Settling p n a j s₀ (suc k) s'
    settling_more k s s' t q = record {
      holds = now_is;
      long = ap length now_is ∙ length-append (row_words n (column (swept p n a (suc k)) j)) (drop (n * weight_words) s₀)
          ∙ omega (arith, length_row n (column (swept p n a (suc k)) j), length-drop (n * weight_words) s₀);
    }
      where
        one : (i : ℕ) → i < n → passed (places_of p) n (matrix_in places n a) j n (row_in places s) i ≡ swept p n a (suc k) i j
        one i hi =
            passed_cong (places_of p) n (matrix_in places n a) j n (row_in places s) (column (swept p n a k) j) (λ v hv. settling_entry k s t v hv) i hi
            ∙ column_is (places_of p) n (matrix_in places n a) j n (swept p n a k) i
            ∙ sym (ap (λ (S : Matrix). S i j) (run_append (language (places_of p)) n (matrix_in places n a) (sweeps n k) (sweep n) (fresh (language (places_of p)))))

        now_is : s' ≡ row_words n (column (swept p n a (suc k)) j) ++ drop (n * weight_words) s₀
        now_is =
            q ∙ ap₂ (λ (x y : List ℕ). x ++ y) (row_cong n _ _ one)
            (ap (drop (n * weight_words)) t.holds ∙ drop_at (row_words n (column (swept p n a k) j)) (drop (n * weight_words) s₀) (n * weight_words) (length_row n _))

    -- a pass that changed nothing may be counted any number of times
    pub settling_still : (k : ℕ) (s : List ℕ) → Settling p n a j s₀ k s → s ≡ row_words n (passed (places_of p) n (matrix_in places n a) j n (row_in places s)) ++ drop (n * weight_words) s
        → (m : ℕ) → Settling p n a j s₀ (m + k) s
    settling_still k s t q zero = rw zero-add t
    settling_still k s t q (suc m) = rw suc-add (settling_more (m + k) s s (settling_still k s t q m) q)

  -- after n - 1 passes the column holds the best weights
  pub settling_all : (e s₀ : List ℕ) (k : ℕ) (s : List ℕ) → Settling p n a j s₀ k s → n ≤ suc k → s₀ ≡ row_words n (fresh (language (places_of p)) j) ++ drop (n * weight_words) e
      → s ≡ row_words n (column (best (language (places_of p)) n (matrix_in places n a)) j) ++ drop (n * weight_words) e
  unfolding network
  settling_all e s₀ k s t l h =
      t.holds
      ∙ ap₂ (λ (x y : List ℕ). x ++ y) (row_cong n _ _ (λ i hi. sym (best_by_sweeps (network p n a g) k l i j hi)))
      (ap (drop (n * weight_words)) h ∙ drop_at (row_words n (fresh (language (places_of p)) j)) (drop (n * weight_words) e) (n * weight_words) (length_row n _))

  -- the entries of the settled column
  settled_entry : (s z : List ℕ) → s ≡ row_words n (column (best (language (places_of p)) n (matrix_in places n a)) j) ++ z
      → (i : ℕ) → i < n → row_in places s i ≡ best (language (places_of p)) n (matrix_in places n a) i j
  settled_entry s z e i hi =
      ap (λ (l : List ℕ). row_in places l i) e
      ∙ row_reads n (column (best (language (places_of p)) n (matrix_in places n a)) j) z i hi (within_back p matrix_sum _ (omega arith) (best_within p n a g i j hi))

  -- the settled column put into a matrix is the settle step
  pub settled_is : (R : Matrix) (s z : List ℕ) → s ≡ row_words n (column (best (language (places_of p)) n (matrix_in places n a)) j) ++ z
      → matrix_words n (set_column j (row_in places s) R) ≡ matrix_words n (step (language (places_of p)) n (matrix_in places n a) (settle j) R)
  settled_is R s z e = matrix_cong n _ _ (λ i v hi hv. one i v hi (eqb v j) refl)
    where
      one : (i v : ℕ) → i < n → (b : Bool) → eqb v j ≡ b → cond b (row_in places s i) (R i v) ≡ cond b (best (language (places_of p)) n (matrix_in places n a) i v) (R i v)
      one i v hi true q = settled_entry s z e i hi ∙ ap (best (language (places_of p)) n (matrix_in places n a) i) (sym (eqb-true v j q))
      one i v hi false q = refl
