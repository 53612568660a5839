-- Refusal 6 on a matrix: it passes exactly where every entry is well-formed, and else it is at the first entry that is not.
use Prim.Native.Nat.{ℕ, zero, suc, ◌+◌, ◌*◌, ◌-◌, ◌/◌, ◌%◌, ◌≤◌, ◌<◌}
use mathlib.Core.Path.{◌≡◌, refl, sym, ap, ap₂, ◌∙◌, subst}
use mathlib.Core.Bool.{Bool, true, false, cond}
use mathlib.Core.List.{List}
use mathlib.Core.Logic.{◌↔◌}
use native.Mathlib.Nat.{mul-le-mul, mul-le-mul_right, mul_assoc, div-add-mod', div-lt_iff_lt-mul, mod-lt}
use native.Mathlib.Numerals.{add-one}
use native.Mathlib.Omega.{arith}
use Rattle.refusals.specs.declared.Refusal.{Refusal}
use Rattle.refusals.specs.declared.Refusal.TheVariants.{Value}
use Rattle.refusals.proofs.First.{passed_not}
use Rattle.refusals.proofs.Cases.{Exact}
use Rattle.weights.specs.declared.Component.{Component}
use Rattle.weights.specs.declared.Weight as declared
use Rattle.weights.specs.Sizes.{weight_words}
use Rattle.weights.specs.Words.{reading, read_of, is_good}
use Rattle.matrices.specs.Buffers.{entry_place, well_formed, first_malformed, entries_case, matrix_check, Square, Formed, AtFirstMalformed}
use Rattle.refusals.specs.Cases.{DueIn}
use Rattle.refusals.specs.Checks.{Check}
use Rattle.std.specs.Prelude.{Option, Ok, Err, Some, None, is_some}

-- ---- one entry further

module _ (test : ℕ → Bool) (size which : ℕ) where
  pub first_more : (e c : ℕ) → e < c
      → first_malformed test size which e (c - e) ≡ cond (test (e * size)) (first_malformed test size which (e + 1) (c - (e + 1))) (Err (Value which (e * size)))
  unfolding first_malformed
  first_more e c h = let q : c - e ≡ suc (c - (e + 1)) = omega arith in rw (q, add-one)

  pub first_good : (e c : ℕ) → e < c → test (e * size) ≡ true → first_malformed test size which e (c - e) ≡ first_malformed test size which (e + 1) (c - (e + 1))
  first_good e c h t = first_more e c h ∙ rw t

  pub first_bad : (e c : ℕ) → e < c → test (e * size) ≡ false → first_malformed test size which e (c - e) ≡ Err (Value which (e * size))
  first_bad e c h t = first_more e c h ∙ rw t

  pub first_none : (e c : ℕ) → c ≤ e → first_malformed test size which e (c - e) ≡ Ok tt
  unfolding first_malformed
  first_none e c h = let q : c - e ≡ 0 = omega arith in rw q

  -- ---- what passes, and what does not

  -- entry e + m passes the test
  abbrev Holds : ℕ → ℕ → Type 0
  Holds e m = test ((e + m) * size) ≡ true

  next : (e m : ℕ) → Holds (suc e) m → Holds e (suc m)
  next e m h = let q : suc e + m ≡ e + suc m = omega arith in subst (λ (k : ℕ). test (k * size) ≡ true) q h

  pub passes_all : (c e : ℕ) → first_malformed test size which e c ≡ Ok tt → (m : ℕ) → m < c → test ((e + m) * size) ≡ true
  unfolding first_malformed
  passes_all zero e h m l = absurd (omega arith)
  passes_all (suc c) e h m l = go (test (e * size)) refl h (passes_all c (suc e)) m l
    where
      go : (b : Bool) → test (e * size) ≡ b → cond b (first_malformed test size which (suc e) c) (Err (Value which (e * size))) ≡ Ok tt
          → (first_malformed test size which (suc e) c ≡ Ok tt → (m : ℕ) → m < c → test ((suc e + m) * size) ≡ true) → (m : ℕ) → m < suc c → test ((e + m) * size) ≡ true
      go true t q ih zero l = let z : e + zero ≡ e = omega arith in subst (λ (k : ℕ). test (k * size) ≡ true) (sym z) t
      go true t q ih (suc m) l = next e m (ih q m (omega arith))
      go false t q ih m l = absurd (passed_not (Value which (e * size)) (sym q))

  pub all_passes : (c e : ℕ) → ((m : ℕ) → m < c → test ((e + m) * size) ≡ true) → first_malformed test size which e c ≡ Ok tt
  unfolding first_malformed
  all_passes zero e h = refl
  all_passes (suc c) e h =
      let z : e + zero ≡ e = omega arith in
      let here : test (e * size) ≡ true = subst (λ (k : ℕ). test (k * size) ≡ true) z (h zero (omega arith)) in
      rw here (all_passes c (suc e) (λ m l. let q : e + suc m ≡ suc e + m = omega arith in subst (λ (k : ℕ). test (k * size) ≡ true) q (h (suc m) (omega arith))))

  -- the first of c entries from entry e on that fails is entry e + m
  pub record First (e c : ℕ) (r : Refusal) : Type 0 where
    pub entries : ℕ
    pub within : entries < c
    pub fails : test ((e + entries) * size) ≡ false
    pub before : (m : ℕ) → m < entries → test ((e + m) * size) ≡ true
    pub told : r ≡ Value which ((e + entries) * size)

  pub refuses_first : (c e : ℕ) (r : Refusal) → first_malformed test size which e c ≡ Err r → First e c r
  unfolding first_malformed
  refuses_first zero e r h = absurd (passed_not r h)
  refuses_first (suc c) e r h = go (test (e * size)) refl h (refuses_first c (suc e) r)
    where
      later : First (suc e) c r → test (e * size) ≡ true → First e (suc c) r
      later f t = record {
        entries = suc f.entries;
        within = omega (arith, f.within);
        fails = let q : suc e + f.entries ≡ e + suc f.entries = omega arith in subst (λ (k : ℕ). test (k * size) ≡ false) q f.fails;
        before = so_far_lem;
        told = let q : suc e + f.entries ≡ e + suc f.entries = omega arith in f.told ∙ ap (λ (k : ℕ). Value which (k * size)) q;
      }
        where
          so_far_lem : (m : ℕ) → m < suc f.entries → test ((e + m) * size) ≡ true
          so_far_lem zero l = let z : e + zero ≡ e = omega arith in subst (λ (k : ℕ). test (k * size) ≡ true) (sym z) t
          so_far_lem (suc m) l = next e m (f.before m (omega arith))

      go : (b : Bool) → test (e * size) ≡ b → cond b (first_malformed test size which (suc e) c) (Err (Value which (e * size))) ≡ Err r
          → (first_malformed test size which (suc e) c ≡ Err r → First (suc e) c r) → First e (suc c) r
      go true t q ih = later (ih q) t
      go false t q ih =
          let z : e + zero ≡ e = omega arith in
          record {
            entries = zero;
            within = omega arith;
            fails = subst (λ (k : ℕ). test (k * size) ≡ false) (sym z) t;
            before = λ m l. absurd (omega arith);
            told = let w : Value which (e * size) ≡ r = cc in sym w ∙ ap (λ (k : ℕ). Value which (k * size)) (sym z);
          }

  pub first_refuses : (c e : ℕ) (r : Refusal) → First e c r → first_malformed test size which e c ≡ Err r
  unfolding first_malformed
  first_refuses zero e r f = absurd (omega (arith, f.within))
  first_refuses (suc c) e r f = go f.entries f.within f.fails f.before f.told (first_refuses c (suc e) r)
    where
      go : (k : ℕ) → k < suc c → test ((e + k) * size) ≡ false → ((m : ℕ) → m < k → test ((e + m) * size) ≡ true) → r ≡ Value which ((e + k) * size)
          → (First (suc e) c r → first_malformed test size which (suc e) c ≡ Err r) → cond (test (e * size)) (first_malformed test size which (suc e) c) (Err (Value which (e * size))) ≡ Err r
      go zero w x b q ih =
          let z : e + zero ≡ e = omega arith in
          let here : test (e * size) ≡ false = subst (λ (k : ℕ). test (k * size) ≡ false) z x in
          rw here (ap Err (sym (q ∙ ap (λ (k : ℕ). Value which (k * size)) z)))
      go (suc k) w x b q ih =
          let z : e + zero ≡ e = omega arith in
          let here : test (e * size) ≡ true = subst (λ (k : ℕ). test (k * size) ≡ true) z (b zero (omega arith)) in
          let y : e + suc k ≡ suc e + k = omega arith in
          rw here (ih (record {
            entries = k;
            within = omega arith;
            fails = subst (λ (k : ℕ). test (k * size) ≡ false) y x;
            before = λ m l. let v : e + suc m ≡ suc e + m = omega arith in subst (λ (k : ℕ). test (k * size) ≡ true) v (b (suc m) (omega arith));
            told = q ∙ ap (λ (k : ℕ). Value which (k * size)) y;
          }))

-- where two tests agree on the entries, the same one fails first
pub first_cong : (t u : ℕ → Bool) (size which e c : ℕ) → ((m : ℕ) → m < e + c → t (m * size) ≡ u (m * size)) → first_malformed t size which e c ≡ first_malformed u size which e c
unfolding first_malformed
first_cong t u size which e zero same = refl
first_cong t u size which e (suc c) same =
    ap₂ (λ (b : Bool) (k : Check). cond b k (Err (Value which (e * size)))) (same e (omega arith)) (first_cong t u size which (suc e) c (λ m l. same m (omega arith)))

-- ---- a matrix

-- entry (i, j) is entry i * n + j of the buffer
pub place_is : (n i j : ℕ) → (i * n + j) * weight_words ≡ entry_place n i j
place_is n i j = omega arith

entry_below : (n i j : ℕ) → i < n → j < n → i * n + j < n * n
entry_below n i j hi hj = omega (arith, mul-le-mul_right n hi)

-- the n * n entries lie within the buffer
pub few_entries : (n : ℕ) → n ≤ 16 → n * n ≤ 256
few_entries n h = mul-le-mul h h

pub entries_words : (n : ℕ) → n * (n * weight_words) ≡ n * n * weight_words
entries_words n = sym (mul_assoc n n weight_words)

-- what the code reads is the test
good_read : (r : Option declared.Weight) → is_good (read_of r) ≡ is_some r
good_read (Some w) = refl
good_read None = refl

pub read_bad : (cap : ℕ) (cs : List Component) (ws : List ℕ) (r : Option declared.Weight) → read_of r ≡ reading cap cs ws → is_some r ≡ false → is_good (reading cap cs ws) ≡ false
read_bad cap cs ws r e q = ap is_good (sym e) ∙ good_read r ∙ q

pub read_good : (cap : ℕ) (cs : List Component) (ws : List ℕ) (r : Option declared.Weight) → read_of r ≡ reading cap cs ws → is_some r ≡ true → is_good (reading cap cs ws) ≡ true
read_good cap cs ws r e q = ap is_good (sym e) ∙ good_read r ∙ q

module _ (which cap : ℕ) (cs : List Component) (n : ℕ) (s : List ℕ) where
  -- entry m of the buffer is entry (m / n, m % n) of the matrix
  record Found (m : ℕ) : Type 0 where
    row : ℕ
    column : ℕ
    row_below : row < n
    column_below : column < n
    same : (0 + m) * weight_words ≡ entry_place n row column
    counted : row * n + column ≡ m

  found : (m : ℕ) → m < n * n → Found m
  found m h =
      let some : 0 < n = positive n h in
      let split : m / n * n + m % n ≡ m = div-add-mod' m n in
      record {
        row = m / n;
        column = m % n;
        row_below = (div-lt_iff_lt-mul some).1 h;
        column_below = mod-lt m some;
        same = let z : 0 + m ≡ m / n * n + m % n = omega arith in ap (λ (k : ℕ). k * weight_words) z ∙ place_is n (m / n) (m % n);
        counted = split;
      }
    where
      positive : (n : ℕ) → m < n * n → 0 < n
      positive zero h = absurd (omega arith)
      positive (suc n) h = omega arith

  -- it refuses exactly at the first malformed entry
  entries_refuses : (r : Refusal) → ((entries_case which cap cs n s).check ≡ Err r) ↔ DueIn (entries_case which cap cs n s) r
  entries_refuses r = (λ e. at_first_lem (refuses_first (well_formed cap cs s) weight_words which (n * n) 0 r e), λ (p, q, f). first_refuses (well_formed cap cs s) weight_words which (n * n) 0 r (first_at p q f))
    where
      first_at : (p : ℕ) → r ≡ Value which p → AtFirstMalformed cap cs n s p → First (well_formed cap cs s) weight_words which 0 (n * n) r
      first_at p q f =
          let same : (0 + (f.row * n + f.column)) * weight_words ≡ entry_place n f.row f.column = let z : 0 + (f.row * n + f.column) ≡ f.row * n + f.column = omega arith in ap (λ (k : ℕ). k * weight_words) z ∙ place_is n f.row f.column in
          record {
            entries = f.row * n + f.column;
            within = entry_below n f.row f.column f.row_below f.column_below;
            fails = subst (λ (k : ℕ). well_formed cap cs s k ≡ false) (sym same) f.fails;
            before = λ m l. let below : f.row * n + f.column < n * n = entry_below n f.row f.column f.row_below f.column_below in
                let g : Found m = found m (omega arith) in
                subst (λ (k : ℕ). well_formed cap cs s k ≡ true) (sym g.same) (f.before g.row g.column g.row_below g.column_below (omega (arith, g.counted)));
            told = q ∙ ap (Value which) (f.here ∙ sym same);
          }

      at_first_lem : First (well_formed cap cs s) weight_words which 0 (n * n) r → (p : ℕ) × (r ≡ Value which p) × AtFirstMalformed cap cs n s p
      at_first_lem f =
          let g : Found f.entries = found f.entries f.within in (
            entry_place n g.row g.column,
            f.told ∙ ap (Value which) g.same,
            record {
              row = g.row;
              column = g.column;
              row_below = g.row_below;
              column_below = g.column_below;
              fails = subst (λ (k : ℕ). well_formed cap cs s k ≡ false) g.same f.fails;
              before = λ i j hi hj l. subst (λ (k : ℕ). well_formed cap cs s k ≡ true) (place_is n i j)
                  (let z : 0 + (i * n + j) ≡ i * n + j = omega arith in
                  subst (λ (k : ℕ). well_formed cap cs s (k * weight_words) ≡ true) z (f.before (i * n + j) (omega (arith, g.counted))));
              here = refl;
            },
          )

  pub entries_exact : Exact (entries_case which cap cs n s)
  entries_exact = record { refuses = entries_refuses }

  module _ (square : Square n s) where
    -- what passes is well-formed
    pub check_formed : matrix_check which cap cs n s ≡ Ok tt → Formed cap cs n s
    check_formed e = record {
      square = square;
      reads = λ i j hi hj. subst (λ (k : ℕ). well_formed cap cs s k ≡ true) (place_is n i j)
          (let z : 0 + (i * n + j) ≡ i * n + j = omega arith in
          subst (λ (k : ℕ). well_formed cap cs s (k * weight_words) ≡ true) z (passes_all (well_formed cap cs s) weight_words which (n * n) 0 e (i * n + j) (entry_below n i j hi hj)));
    }

    -- .. and back
    pub formed_check : Formed cap cs n s → matrix_check which cap cs n s ≡ Ok tt
    formed_check f = all_passes (well_formed cap cs s) weight_words which (n * n) 0
        (λ m h. let g : Found m = found m h in subst (λ (k : ℕ). well_formed cap cs s k ≡ true) (sym g.same) (f.reads g.row g.column g.row_below g.column_below))

    pub check_exactly : (matrix_check which cap cs n s ≡ Ok tt) ↔ Formed cap cs n s
    check_exactly = (check_formed, formed_check)
