-- The table that forwarding writes is well-formed, its sums at most 1,048,560. A matrix of best weights satisfies the routing equation,
-- which forwarding asks for.
use Prim.Native.Nat.{ℕ, ◌+◌, ◌≤◌, ◌<◌}
use mathlib.Core.Path.{◌≡◌, refl, sym, subst}
use mathlib.Core.Bool.{true, false}
use mathlib.Core.List.{List, [], ◌∷◌}
use native.Mathlib.Omega.{arith}
use borrow.Author.Tests.{ne_eqb, le-leb}
use lib.Dec.{eqb}
use Rattle.algebra.specs.Path.{Matrix, ValidMatrix}
use Rattle.algebra.specs.Best.{Best}
use Rattle.algebra.specs.Modes.{carried, forwarded}
use Rattle.algebra.proofs.Reach.{column_solves}
use Rattle.weights.specs.declared.Component.{Component}
use Rattle.weights.specs.declared.Component.TheVariants.{Dist, Width, Class, Gain}
use Rattle.weights.specs.declared.PerPlace.{PerPlace}
use Rattle.weights.specs.Sizes.{places, ones, arc_sum, matrix_sum, table_sum}
use Rattle.weights.specs.Weights.{Weight, none, route, Valid, ValidValue, ValidValues, Sound, language}
use Rattle.weights.specs.Laws.{test_d, test_u}
use Rattle.weights.specs.Languages.{places_of}
use Rattle.weights.specs.Values.{AtMost, AllAtMost}
use Rattle.weights.specs.Words.{in_range, fits}
use Rattle.weights.proofs.Ordering.{join_valid}
use Rattle.weights.proofs.Languages.{lawful}
use Rattle.matrices.specs.Buffers.{matrix_in}
use Rattle.matrices.specs.Steps.{solves}
use Rattle.matrices.proofs.Bounds.{formed_valid, formed_most, join_most}
use Rattle.matrices.proofs.Every.{solves_exactly}
use Rattle.modes.specs.declared.Mode.{Mode}
use Rattle.modes.specs.Entries.{Entry, empty, mapped, applied, largest_t, mode_of}
use Rattle.tables.specs.Tables.{words_of, reading_entry, is_good_entry, table_words, table_in, FormedTable}
use Rattle.tables.specs.Parts.{GivenTable}
use Rattle.modes.proofs.EntrySums.{best_keeps}
use Rattle.tables.proofs.Summing.{Entered, table_entered}
use Rattle.tables.proofs.TableBlocks.{length_table, table_five}

-- ---- what is forwarded is an entry of the language and the mode

entered_applied : (mode : Mode) (a b : ℕ) (cs : List Component) (w : Weight) (e : Entry) → Valid cs w → AtMost a w → Entered mode b cs e → Entered mode (a + b) cs (applied cs w e)
entered_applied mode a b cs w empty vw mw h = record { valid = tt; most = tt }
entered_applied mode a b cs none (mapped ys t) vw mw h = record { valid = tt; most = tt }
entered_applied mode a b cs (route xs) (mapped ys t) vw mw h = record {
  valid = (join_valid cs (route xs) (route ys) vw h.valid.0, h.valid.1);
  most = join_most cs a b (route xs) (route ys) mw h.most;
}

module _ (mode : Mode) (p : PerPlace Component) (n m : ℕ) (r s : List ℕ) (g : GivenTable mode (places_of p) n m r s) where
  abbrev sum : ℕ → ℕ → Entry
  sum = forwarded (language (places_of p)) (mode_of mode (places_of p)) n (matrix_in places n r) (table_in places m s)

  pub sum_entered : (i d : ℕ) → i < n → d < m → Entered mode table_sum (places_of p) (sum i d)
  unfolding forwarded
  sum_entered i d hi hd =
      best_keeps (mode_of mode (places_of p)).entries (Entered mode table_sum (places_of p)) n (carried (language (places_of p)) (mode_of mode (places_of p)) (matrix_in places n r) (table_in places m s) i d) empty
      record { valid = tt; most = tt }
      (λ k hk. entered_applied mode matrix_sum arc_sum (places_of p) (matrix_in places n r i k) (table_in places m s k d)
      (formed_valid matrix_sum p n r g.routes i k hi hk)
      (formed_most matrix_sum p n r (omega arith) g.limits g.routes i k hi hk)
      (table_entered mode arc_sum p (omega arith) g.limits n m s g.table k d hk hd))

-- ---- its words

value_in : (cap : ℕ) (c : Component) (v : ℕ) → v ≤ cap → ValidValue c v → in_range cap c v ≡ true
value_in cap Dist v h k = le-leb v cap h
value_in cap (Width w) v h k = rw (le-leb 1 v k.0, le-leb v w k.1)
value_in cap (Class w) v h k = le-leb v w k
value_in cap Gain v h k = le-leb v cap h

values_in : (cap : ℕ) (cs : List Component) (xs : List ℕ) → AllAtMost cap xs → ValidValues cs xs → fits cap cs xs ≡ true
values_in cap [] [] h k = refl
values_in cap [] (x ∷ xs) h k = absurd k
values_in cap (c ∷ cs) [] h k = absurd k
values_in cap (c ∷ cs) (x ∷ xs) h k = rw (value_in cap c x h.0 k.0, values_in cap cs xs h.1 k.1)

-- an entry's words are well-formed
reads4 : (mode : Mode) (cap : ℕ) (p : PerPlace Component) (e : Entry) → cap < ones → Entered mode cap (places_of p) e → is_good_entry (reading_entry mode cap (places_of p) (words_of e)) ≡ true
unfolding words_of
reads4 mode cap p empty l h = refl
reads4 mode cap p (mapped [] t) l h = absurd h.valid.0
reads4 mode cap p (mapped (x ∷ []) t) l h = absurd h.valid.0.1
reads4 mode cap p (mapped (x ∷ y ∷ []) t) l h = absurd h.valid.0.1.1
reads4 mode cap p (mapped (x ∷ y ∷ z ∷ []) t) l h = absurd h.valid.0.1.1.1
reads4 mode cap p (mapped (x ∷ y ∷ z ∷ v ∷ []) t) l h =
    let q : x ≤ cap = h.most.0 in
    let ne : eqb x ones ≡ false = ne_eqb x ones (λ e. omega arith) in
    rw (ne, values_in cap (places_of p) (x ∷ y ∷ z ∷ v ∷ []) h.most h.valid.0, le-leb t (largest_t mode) h.valid.1)
reads4 mode cap p (mapped (x ∷ y ∷ z ∷ v ∷ u ∷ xs) t) l h = absurd h.valid.0.1.1.1.1

module _ (mode : Mode) (p : PerPlace Component) (n m : ℕ) (r s : List ℕ) (g : GivenTable mode (places_of p) n m r s) where
  abbrev F : ℕ → ℕ → Entry
  F = forwarded (language (places_of p)) (mode_of mode (places_of p)) n (matrix_in places n r) (table_in places m s)

  -- the forwarded table is well-formed, its sums at most 1,048,560
  pub sum_formed : FormedTable mode table_sum (places_of p) n m (table_words n m F)
  sum_formed = record {
    sized = record { few_nodes = g.table.sized.few_nodes; few_destinations = g.table.sized.few_destinations; long = length_table n m F };
    reads = λ i d hi hd. subst (λ (l : List ℕ). is_good_entry (reading_entry mode table_sum (places_of p) l) ≡ true) (sym (table_five n m F i d hi hd)) (reads4 mode table_sum p (F i d) (omega arith) (sum_entered mode p n m r s g i d hi hd));
  }

-- ---- where R holds the best weights, the routing equation holds: 12 is never given

pub best_solves : (cs : List Component) → Sound cs → test_d cs ≡ true → test_u cs ≡ true → (n : ℕ) (A R : Matrix (language cs)) → ValidMatrix (language cs) n A
    → ((i j : ℕ) → i < n → j < n → Best (language cs) n A i j (R i j)) → solves cs n A R ≡ true
best_solves cs sound d u n A R a_valid b =
    (solves_exactly cs n A R).1 (λ i j hi hj. column_solves (record { 𝓐 = language cs; 𝓛 = lawful cs sound d u; n = n; A = A; arcs_valid = a_valid }) R j (λ i hi. b i j hi hj) i hi)
