-- Each case that only forwarding has is exact; law C's where the limits are sound and the mode fits.
use Prim.Native.Nat.{ℕ, zero, suc, ◌*◌, ◌≤◌}
use mathlib.Core.Path.{◌≡◌, refl, sym, ap, subst, ◌∙◌}
use mathlib.Core.Bool.{Bool, true, false, not, cond, ◌||◌, false≢true}
use mathlib.Core.List.{List}
use mathlib.Core.Logic.{◌⊎◌, inl, inr, ◌↔◌}
use native.Mathlib.Omega.{arith}
use borrow.Author.Tests.{leb-true, le-leb, eqb-true, eq-eqb}
use lib.Dec.{leb, eqb}
use lib.ListN.{length}
use Rattle.refusals.specs.declared.Refusal.TheVariants.{Size, Length, Law, Equation}
use Rattle.refusals.specs.Checks.{unless}
use Rattle.refusals.specs.Cases.{DueIn}
use Rattle.refusals.proofs.First.{passed_not, refused_one}
use Rattle.refusals.proofs.Exactly.{unless_refuses}
use Rattle.refusals.proofs.Tests.{leb_exactly, eqb_exactly}
use Rattle.refusals.proofs.Cases.{Exact, unless_exact}
use Rattle.weights.specs.declared.Component.{Component}
use Rattle.weights.specs.Sizes.{entry_words, arc_sum}
use Rattle.weights.specs.Weights.{Sound}
use Rattle.weights.specs.Laws.{LawC, test_c}
use Rattle.weights.proofs.Decided.{c_exact}
use Rattle.weights.proofs.Ordering.{clash}
use Rattle.matrices.specs.Buffers.{matrix_in}
use Rattle.matrices.proofs.Every.{solves_exactly}
use Rattle.modes.specs.declared.Mode.{Mode}
use Rattle.modes.specs.declared.Mode.TheVariants.{Plain, Hot, Cold}
use Rattle.modes.specs.Entries.{mode_for, needs_c}
use Rattle.tables.proofs.MalformedEntries.{table_exact}
use Rattle.table_guards.specs.Checks.{most_destinations, ModeFits, chosen_check, chosen_mode, mode_case, destinations_case, table_length_case, law_c_case, mapping_case, solves_case}
use Rattle.refusals.specs.declared.Refusal.{Refusal}
use Rattle.std.specs.Prelude.{Option, Ok, Err, Some, None}

pub destinations_exact : (m : ℕ) → Exact (destinations_case m)
destinations_exact m = unless_exact (Size 2) 0 (leb_exactly m most_destinations)

pub table_length_exact : (which n m : ℕ) (s : List ℕ) → Exact (table_length_case which n m s)
table_length_exact which n m s = unless_exact (Length which) 0 (eqb_exactly (length s) (n * (m * entry_words)))

pub mapping_exact : (mode : Mode) (cs : List Component) (n m : ℕ) (s : List ℕ) → Exact (mapping_case mode cs n m s)
mapping_exact mode cs n m s = table_exact 3 mode arc_sum cs n m s

pub solves_exact : (cs : List Component) (n : ℕ) (a r : List ℕ) → Exact (solves_case cs n a r)
solves_exact cs n a r = unless_exact (Equation 2) 0 (solves_exactly cs n (matrix_in (length cs) n a) (matrix_in (length cs) n r))

-- ---- 3, which 3

-- a number from 1 to 3
three_ways : (k : ℕ) → 1 ≤ k → k ≤ 3 → (k ≡ 1) ⊎ (k ≡ 2) ⊎ (k ≡ 3)
three_ways zero h i = absurd (omega arith)
three_ways (suc zero) h i = inl refl
three_ways (suc (suc zero)) h i = inr (inl refl)
three_ways (suc (suc (suc zero))) h i = inr (inr refl)
three_ways (suc (suc (suc (suc k)))) h i = absurd (omega arith)

module _ (cs : List Component) (m number : ℕ) where
  abbrev mode : Mode
  mode = chosen_mode (mode_for cs m number)

  -- a mode's number fits exactly where it is 1, 2 or 3 and m is not 0
  mode_case_lem : ((mode_case cs m number).check ≡ Err (Size 3 0)) ↔ (ModeFits m number → ⊥)
  mode_case_lem = (there (leb 1 m) refl (eqb number 1) refl (eqb number 2) refl (eqb number 3) refl, back (leb 1 m) refl (eqb number 1) refl (eqb number 2) refl (eqb number 3) refl)
    where
      neither : eqb number 1 ≡ false → eqb number 2 ≡ false → eqb number 3 ≡ false → (number ≡ 1) ⊎ (number ≡ 2) ⊎ (number ≡ 3) → ⊥
      neither p q r (inl e) = clash (eqb number 1) (eq-eqb number 1 e) p
      neither p q r (inr (inl e)) = clash (eqb number 2) (eq-eqb number 2 e) q
      neither p q r (inr (inr e)) = clash (eqb number 3) (eq-eqb number 3 e) r

      there : (b : Bool) → leb 1 m ≡ b → (x : Bool) → eqb number 1 ≡ x → (y : Bool) → eqb number 2 ≡ y → (z : Bool) → eqb number 3 ≡ z
          → chosen_check (cond b (cond x (Some Plain) (cond y (Some Hot) (cond z (Some Cold) None))) None) ≡ Err (Size 3 0) → ModeFits m number → ⊥
      there false o x p y q z r e (h, i, j) = clash (leb 1 m) (le-leb 1 m h) o
      there true o true p y q z r e fits = passed_not (Size 3 0) e
      there true o false p true q z r e fits = passed_not (Size 3 0) e
      there true o false p false q true r e fits = passed_not (Size 3 0) e
      there true o false p false q false r e (h, i, j) = neither p q r (three_ways number i j)

      back : (b : Bool) → leb 1 m ≡ b → (x : Bool) → eqb number 1 ≡ x → (y : Bool) → eqb number 2 ≡ y → (z : Bool) → eqb number 3 ≡ z
          → (ModeFits m number → ⊥) → chosen_check (cond b (cond x (Some Plain) (cond y (Some Hot) (cond z (Some Cold) None))) None) ≡ Err (Size 3 0)
      back false o x p y q z r g = refl
      back true o true p y q z r g = let e = eqb-true number 1 p in absurd (g (leb-true 1 m o, omega arith, omega arith))
      back true o false p true q z r g = let e = eqb-true number 2 q in absurd (g (leb-true 1 m o, omega arith, omega arith))
      back true o false p false q true r g = let e = eqb-true number 3 r in absurd (g (leb-true 1 m o, omega arith, omega arith))
      back true o false p false q false r g = refl

  mode_refuses : (x : Refusal) → ((mode_case cs m number).check ≡ Err x) ↔ DueIn (mode_case cs m number) x
  mode_refuses x = (λ e. let z = tells (mode_for cs m number) e in (0, sym z, (refl, mode_case_lem.0 (e ∙ ap Err (sym z)))), back)
    where
      tells : (c : Option Mode) → chosen_check c ≡ Err x → Size 3 0 ≡ x
      tells (Some mode) e = absurd (passed_not x e)
      tells None e = refused_one e

      back : DueIn (mode_case cs m number) x → (mode_case cs m number).check ≡ Err x
      back (place, q, (z, f)) = mode_case_lem.1 f ∙ ap Err (sym (q ∙ ap (Size 3) z))

  pub mode_exact : Exact (mode_case cs m number)
  mode_exact = record { refuses = mode_refuses }

  -- ---- 10, which 3

  -- among numbers that fit, 2 alone means a mode that needs law C
  hot_is_two : (mode_case cs m number).check ≡ Ok tt → (needs_c mode ≡ true) ↔ (number ≡ 2)
  hot_is_two h = (there (leb 1 m) (eqb number 1) (eqb number 2) (eqb number 3) refl, back)
    where
      there : (b one two three : Bool) → eqb number 2 ≡ two → needs_c (chosen_mode (cond b (cond one (Some Plain) (cond two (Some Hot) (cond three (Some Cold) None))) None)) ≡ true → number ≡ 2
      there false one two three q e = absurd (false≢true e)
      there true true two three q e = absurd (false≢true e)
      there true false true three q e = eqb-true number 2 q
      there true false false true q e = absurd (false≢true e)
      there true false false false q e = absurd (false≢true e)

      fits : (b : Bool) → chosen_check (cond b (Some Hot) None) ≡ Ok tt → needs_c (chosen_mode (cond b (Some Hot) None)) ≡ true
      fits true e = refl
      fits false e = absurd (passed_not (Size 3 0) (sym e))

      back : number ≡ 2 → needs_c mode ≡ true
      back q = subst (λ (k : ℕ). needs_c (chosen_mode (mode_for cs m k)) ≡ true) (sym q) (fits (leb 1 m) (subst (λ (k : ℕ). (mode_case cs m k).check ≡ Ok tt) q h))

  law_c_refuses : Sound cs → (mode_case cs m number).check ≡ Ok tt → (x : Refusal) → ((law_c_case number mode cs).check ≡ Err x) ↔ DueIn (law_c_case number mode cs) x
  law_c_refuses sound fits x = (λ e. let h = unless_refuses (not (needs_c mode) || test_c cs) (Law 3 0) x e in there (needs_c mode) refl (test_c cs) refl h.0 h.1, back)
    where
      there : (b : Bool) → needs_c mode ≡ b → (c : Bool) → test_c cs ≡ c → (not b || c) ≡ false → Law 3 0 ≡ x → DueIn (law_c_case number mode cs) x
      there true p true q e z = absurd (false≢true (sym e))
      there true p false q e z = (0, sym z, (refl, (hot_is_two fits).0 p, λ law. clash (test_c cs) ((c_exact cs sound).1 law) q))
      there false p c q e z = absurd (false≢true (sym e))

      refuse : (b : Bool) → test_c cs ≡ b → number ≡ 2 → (LawC cs → ⊥) → unless (not (needs_c mode) || test_c cs) (Law 3 0) ≡ Err (Law 3 0)
      refuse true q p g = absurd (g ((c_exact cs sound).0 q))
      refuse false q p g = rw ((hot_is_two fits).1 p, q)

      back : DueIn (law_c_case number mode cs) x → unless (not (needs_c mode) || test_c cs) (Law 3 0) ≡ Err x
      back (place, q, (z, p, g)) = refuse (test_c cs) refl p g ∙ ap Err (sym (q ∙ ap (Law 3) z))

  pub law_c_exact : Sound cs → (mode_case cs m number).check ≡ Ok tt → Exact (law_c_case number mode cs)
  law_c_exact sound fits = record { refuses = law_c_refuses sound fits }
