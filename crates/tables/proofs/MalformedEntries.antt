-- Refusal 6 on a table: it passes exactly where every entry is well-formed, and else it is at the first entry that is not.
use Prim.Native.Nat.{ℕ, ◌+◌, ◌*◌, ◌/◌, ◌%◌, ◌<◌}
use mathlib.Core.Path.{◌≡◌, refl, sym, ap, ◌∙◌, subst}
use mathlib.Core.Bool.{Bool, true, false}
use mathlib.Core.List.{List}
use mathlib.Core.Logic.{◌↔◌}
use native.Mathlib.Nat.{mul-le-mul_right, mul_assoc, div-add-mod'}
use native.Mathlib.Omega.{arith}
use Rattle.refusals.specs.declared.Refusal.TheVariants.{Value}
use Rattle.weights.specs.declared.Component.{Component}
use Rattle.weights.specs.Sizes.{entry_words}
use Rattle.matrices.proofs.Malformed.{passes_all, all_passes, First, refuses_first, first_refuses}
use Rattle.modes.specs.declared.Mode.{Mode}
use Rattle.tables.specs.Tables.{table_place, well_formed_entry, table_check, Sized, FormedTable, AtFirstMalformedEntry, table_case}
use Rattle.tables.proofs.Rooms.{Counted, counted}
use Rattle.refusals.proofs.Cases.{Exact}
use Rattle.refusals.specs.Cases.{DueIn}
use Rattle.refusals.specs.declared.Refusal.{Refusal}
use Rattle.std.specs.Prelude.{Ok, Err}

-- entry (i, d) is entry i * m + d of the buffer
place_is : (m i d : ℕ) → (0 + (i * m + d)) * entry_words ≡ table_place m i d
place_is m i d = omega (arith, mul_assoc i m entry_words)

entry_below : (n m i d : ℕ) → i < n → d < m → i * m + d < n * m
entry_below n m i d hi hd = omega (arith, mul-le-mul_right m hi)

zero_more : (e : ℕ) → (0 + e) * entry_words ≡ e * entry_words
zero_more e = omega arith

module _ (which : ℕ) (mode : Mode) (cap : ℕ) (cs : List Component) (n m : ℕ) (s : List ℕ) where
  abbrev test : ℕ → Bool
  test = well_formed_entry mode cap cs s

  -- it refuses exactly at the first malformed entry
  table_refuses : (r : Refusal) → ((table_case which mode cap cs n m s).check ≡ Err r) ↔ DueIn (table_case which mode cap cs n m s) r
  table_refuses r = (λ e. at_first_lem (refuses_first test entry_words which (n * m) 0 r e), λ (p, q, f). first_refuses test entry_words which (n * m) 0 r (first_at p q f))
    where
      first_at : (p : ℕ) → r ≡ Value which p → AtFirstMalformedEntry mode cap cs n m s p → First test entry_words which 0 (n * m) r
      first_at p q f =
          let below : f.node * m + f.destination < n * m = entry_below n m f.node f.destination f.node_below f.destination_below in
          record {
            entries = f.node * m + f.destination;
            within = below;
            fails = subst (λ (k : ℕ). test k ≡ false) (sym (place_is m f.node f.destination)) f.fails;
            before = λ e l. let g : Counted n m e = counted n m e (omega arith) in subst (λ (k : ℕ). test k ≡ true) (g.same ∙ sym (zero_more e)) (f.before (e / m) (e % m) g.node g.destination (omega (arith, div-add-mod' e m)));
            told = q ∙ ap (Value which) (f.here ∙ sym (place_is m f.node f.destination));
          }

      at_first_lem : First test entry_words which 0 (n * m) r → (p : ℕ) × (r ≡ Value which p) × AtFirstMalformedEntry mode cap cs n m s p
      at_first_lem f =
          let g : Counted n m f.entries = counted n m f.entries f.within in
          let q : (0 + f.entries) * entry_words ≡ table_place m (f.entries / m) (f.entries % m) = zero_more f.entries ∙ sym g.same in (
            table_place m (f.entries / m) (f.entries % m),
            f.told ∙ ap (Value which) q,
            record {
              node = f.entries / m;
              destination = f.entries % m;
              node_below = g.node;
              destination_below = g.destination;
              fails = subst (λ (k : ℕ). test k ≡ false) q f.fails;
              before = λ i d hi hd l. subst (λ (k : ℕ). test k ≡ true) (place_is m i d) (f.before (i * m + d) (omega (arith, div-add-mod' f.entries m)));
              here = refl;
            },
          )

  pub table_exact : Exact (table_case which mode cap cs n m s)
  table_exact = record { refuses = table_refuses }

  module _ (sized : Sized n m s) where
    -- what passes is well-formed
    pub check_formed : table_check which mode cap cs n m s ≡ Ok tt → FormedTable mode cap cs n m s
    check_formed e = record {
      sized = sized;
      reads = λ i d hi hd. subst (λ (k : ℕ). test k ≡ true) (place_is m i d) (passes_all test entry_words which (n * m) 0 e (i * m + d) (entry_below n m i d hi hd));
    }

    -- .. and back
    pub formed_check : FormedTable mode cap cs n m s → table_check which mode cap cs n m s ≡ Ok tt
    formed_check f = all_passes test entry_words which (n * m) 0
        (λ e h. let g : Counted n m e = counted n m e h in subst (λ (k : ℕ). test k ≡ true) (g.same ∙ sym (zero_more e)) (f.reads (e / m) (e % m) g.node g.destination))

    pub check_exactly : (table_check which mode cap cs n m s ≡ Ok tt) ↔ FormedTable mode cap cs n m s
    check_exactly = (check_formed, formed_check)
