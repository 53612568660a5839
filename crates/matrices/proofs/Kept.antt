-- Steps can follow one another: what a row step or a settle step leaves of a well-formed matrix is well-formed, and its words stand for
-- its entries.
use Prim.Native.Nat.{ℕ, ◌+◌, ◌*◌, ◌≤◌, ◌<◌}
use mathlib.Core.Path.{◌≡◌, refl, sym, ap, ◌∙◌, subst}
use mathlib.Core.Bool.{Bool, true, false, cond}
use mathlib.Core.List.{List}
use native.Mathlib.Omega.{arith}
use borrow.Author.Tests.{eqb-true}
use lib.Dec.{eqb}
use Rattle.algebra.specs.Best.{best}
use Rattle.algebra.specs.Step.{row, settle, routed, step}
use Rattle.weights.specs.declared.PerPlace.{PerPlace}
use Rattle.weights.specs.declared.Component.{Component}
use Rattle.weights.specs.Sizes.{places, weight_words, matrix_sum}
use Rattle.weights.specs.Weights.{Weight, language}
use Rattle.weights.specs.Languages.{places_of}
use Rattle.weights.specs.Words.{reading, words, decoded, is_good}
use Rattle.matrices.specs.Buffers.{matrix_words, matrix_in, entry_place, Formed}
use Rattle.matrices.specs.Steps.{Matrix, weight_fits, row_fits, stepped, Given}
use Rattle.matrices.proofs.Blocks.{place_room}
use Rattle.matrices.proofs.Entries.{length_matrix, words_cell, cell_back, matrix_four, matrix_reads}
use Rattle.matrices.proofs.Every.{every_at}
use Rattle.matrices.proofs.Bounds.{Within, within_back, good_words}
use Rattle.matrices.proofs.Rounds.{routed_within, routed_back}
use Rattle.matrices.proofs.Sums.{most_fits, arcs_of_lem, best_within}

-- an entry's words are well-formed and stand for it
pub record Stands (p : PerPlace Component) (w : Weight) : Type 0 where
  pub good : is_good (reading matrix_sum (places_of p) (words w)) ≡ true
  pub back : decoded places (words w) ≡ w

-- ---- a matrix all of whose entries stand

pub stands_formed : (p : PerPlace Component) (n : ℕ) (R : Matrix) → n ≤ 16 → ((i j : ℕ) → i < n → j < n → Stands p (R i j)) → Formed matrix_sum (places_of p) n (matrix_words n R)
stands_formed p n R few h = record {
  square = record { few = few; long = length_matrix n R };
  reads = λ i j hi hj. subst (λ (l : List ℕ). is_good (reading matrix_sum (places_of p) l) ≡ true) (sym (matrix_four n R i j hi hj)) (h i j hi hj).good;
}

pub stands_entries : (p : PerPlace Component) (n : ℕ) (R : Matrix) → ((i j : ℕ) → i < n → j < n → Stands p (R i j)) → (i j : ℕ) → i < n → j < n → matrix_in places n (matrix_words n R) i j ≡ R i j
stands_entries p n R h i j hi hj = matrix_reads n R i j hi hj (h i j hi hj).back

-- ---- which entries stand

-- a weight, its sums at most 983,025
pub within_stands : (p : PerPlace Component) (w : Weight) → Within matrix_sum (places_of p) w → Stands p w
within_stands p w h = record { good = good_words p w h.valid (most_fits (places_of p) w h.most); back = within_back p matrix_sum w (omega arith) h }

-- an entry of a well-formed matrix
pub old_stands : (p : PerPlace Component) (n : ℕ) (r : List ℕ) → Formed matrix_sum (places_of p) n r → (i j : ℕ) → i < n → j < n → Stands p (matrix_in places n r i j)
old_stands p n r f i j hi hj =
    let room : entry_place n i j + weight_words ≤ n * (n * weight_words) = place_room n i j hi hj in
    record {
      good = subst (λ (l : List ℕ). is_good (reading matrix_sum (places_of p) l) ≡ true) (sym (words_cell r (entry_place n i j) (omega (arith, f.square.long)))) (f.reads i j hi hj);
      back = cell_back r (entry_place n i j) (omega (arith, f.square.long));
    }

-- ---- the steps

module _ (p : PerPlace Component) (n : ℕ) (a r : List ℕ) (g : Given (places_of p) n a r) where
  -- the matrix that row step i leaves
  abbrev row_left : ℕ → Matrix
  row_left i = stepped (places_of p) n (matrix_in places n a) (matrix_in places n r) i

  -- the matrix that settle step j leaves
  abbrev settle_left : ℕ → Matrix
  settle_left j = step (language (places_of p)) n (matrix_in places n a) (settle j) (matrix_in places n r)

  old : (i j : ℕ) → i < n → j < n → Stands p (matrix_in places n r i j)
  old = old_stands p n r g.routes

  row_stands : (i u v : ℕ) → u < n → v < n → Stands p (row_left i u v)
  row_stands i u v hu hv = go (row_fits (places_of p) n (matrix_in places n a) (matrix_in places n r) i) refl
    where
      new : row_fits (places_of p) n (matrix_in places n a) (matrix_in places n r) i ≡ true → (b : Bool) → eqb u i ≡ b
          → Stands p (cond b (routed (language (places_of p)) n (matrix_in places n a) (matrix_in places n r) u v) (matrix_in places n r u v))
      new t true q = record {
        good = good_words p _ (routed_within p n a r g u v hu hv n (omega arith)).valid
            (ap (λ (w : ℕ). weight_fits (places_of p) (routed (language (places_of p)) n (matrix_in places n a) (matrix_in places n r) w v)) (eqb-true u i q) ∙ every_at _ n t v hv);
        back = routed_back p n a r g u v hu hv n (omega arith);
      }
      new t false q = old u v hu hv

      go : (t : Bool) → row_fits (places_of p) n (matrix_in places n a) (matrix_in places n r) i ≡ t
          → Stands p (cond t (step (language (places_of p)) n (matrix_in places n a) (row i) (matrix_in places n r)) (matrix_in places n r) u v)
      go true t = new t (eqb u i) refl
      go false t = old u v hu hv

  settle_stands : (j u v : ℕ) → u < n → v < n → Stands p (settle_left j u v)
  settle_stands j u v hu hv = go (eqb v j)
    where
      go : (b : Bool) → Stands p (cond b (best (language (places_of p)) n (matrix_in places n a) u v) (matrix_in places n r u v))
      go true = within_stands p _ (best_within p n a (arcs_of_lem p n a r g) u v hu)
      go false = old u v hu hv

  given_again : (R : Matrix) (r' : List ℕ) → ((i j : ℕ) → i < n → j < n → Stands p (R i j)) → r' ≡ matrix_words n R → Given (places_of p) n a r'
  given_again R r' h e = record {
    limits = g.limits;
    sound = g.sound;
    law_d_holds = g.law_d_holds;
    law_u_holds = g.law_u_holds;
    arcs = g.arcs;
    routes = subst (Formed matrix_sum (places_of p) n) (sym e) (stands_formed p n R g.routes.square.few h);
  }

  -- a row step
  pub row_entries : (i u v : ℕ) → u < n → v < n
      → matrix_in places n (matrix_words n (stepped (places_of p) n (matrix_in places n a) (matrix_in places n r) i)) u v ≡ stepped (places_of p) n (matrix_in places n a) (matrix_in places n r) i u v
  row_entries i = stands_entries p n (row_left i) (row_stands i)

  pub row_given : (i : ℕ) (r' : List ℕ) → r' ≡ matrix_words n (stepped (places_of p) n (matrix_in places n a) (matrix_in places n r) i) → Given (places_of p) n a r'
  row_given i r' e = given_again (row_left i) r' (row_stands i) e

  -- a settle step
  pub settle_entries : (j u v : ℕ) → u < n → v < n
      → matrix_in places n (matrix_words n (step (language (places_of p)) n (matrix_in places n a) (settle j) (matrix_in places n r))) u v
      ≡ step (language (places_of p)) n (matrix_in places n a) (settle j) (matrix_in places n r) u v
  settle_entries j = stands_entries p n (settle_left j) (settle_stands j)

  pub settle_given : (j : ℕ) (r' : List ℕ) → r' ≡ matrix_words n (step (language (places_of p)) n (matrix_in places n a) (settle j) (matrix_in places n r)) → Given (places_of p) n a r'
  settle_given j r' e = given_again (settle_left j) r' (settle_stands j) e
