-- The buffers read in the places and in the language: the same entries are malformed, and each weight in the places is the
-- language's with words 0 after it. So steps done in the places are the language's steps.
use Prim.Native.Nat.{ℕ, zero, suc, ◌+◌, ◌*◌, ◌≤◌, ◌<◌}
use mathlib.Core.Path.{◌≡◌, refl, sym, ap, ap₂, subst, ◌∙◌}
use mathlib.Core.Bool.{Bool, true, false, cond, ◌&&◌}
use mathlib.Core.List.{List, [], ◌∷◌}
use native.Mathlib.Omega.{arith}
use native.Mathlib.Nat.{mul-le-mul_right}
use lib.Dec.{eqb}
use lib.ListN.{length, length-take, length-drop}
use Rattle.algebra.specs.Step.{Step, row, settle, fresh, routed, step}
use Rattle.algebra.proofs.Embedding.{Embedding, Goes, GoesTo, fresh_goes, routed_goes, step_goes}
use Rattle.weights.specs.declared.Component.{Component}
use Rattle.weights.specs.declared.PerPlace.{PerPlace}
use Rattle.weights.specs.Sizes.{places, weight_words}
use Rattle.weights.specs.Weights.{Weight, none, route, Valid, ValidValues, Sound, language}
use Rattle.weights.specs.Languages.{padded, places_of}
use Rattle.weights.specs.Values.{same, same_values}
use Rattle.weights.specs.Words.{filled, words}
use Rattle.weights.proofs.Padding.{pad_weight, padding, words_pad}
use Rattle.weights.proofs.Readings.{well_read, well_valid, decoded_pad, good_pad}
use Rattle.matrices.specs.Buffers.{matrix_words, entry_place, words_at, cell, matrix_in, well_formed, matrix_check, Square, Formed}
use Rattle.matrices.specs.Steps.{Matrix, sum_fits, sums_fit, weight_fits, row_fits, solves, Given}
use Rattle.matrices.proofs.Blocks.{blocks_cong, place_room}
use Rattle.matrices.proofs.Entries.{matrix_self}
use Rattle.matrices.proofs.Every.{every_cong}
use Rattle.matrices.proofs.Kept.{row_entries, row_given, settle_entries, settle_given}
use Rattle.matrices.proofs.Malformed.{first_cong, entries_words}
use Rattle.routes.specs.Calls.{step_fits, run_of, done_of}
use Rattle.routes.specs.Ready.{step_left, run_left, run_done}

-- ---- malformed entries

words_length : (s : List ℕ) (p : ℕ) → p + weight_words ≤ length s → length (words_at s p) ≡ weight_words
words_length s p h = simp (length-take, length-drop) (omega arith)

well_pad : (cap : ℕ) (cs : List Component) (s : List ℕ) (p : ℕ) → length cs ≤ places → p + weight_words ≤ length s → well_formed cap (padded places cs) s p ≡ well_formed cap cs s p
well_pad cap cs s p h k = good_pad cap places cs (words_at s p) h (words_length s p k)

pub check_pad : (which cap : ℕ) (cs : List Component) (n : ℕ) (s : List ℕ) → length cs ≤ places → Square n s → matrix_check which cap (padded places cs) n s ≡ matrix_check which cap cs n s
check_pad which cap cs n s h q =
    first_cong (well_formed cap (padded places cs) s) (well_formed cap cs s) weight_words which 0 (n * n)
    (λ m l. well_pad cap cs s (m * weight_words) h (let o : suc m ≤ n * n = omega arith in omega (arith, q.long, entries_words n, mul-le-mul_right weight_words o)))

-- ---- entries

module _ (cap : ℕ) (cs : List Component) (n : ℕ) (s : List ℕ) (h : length cs ≤ places) (f : Formed cap cs n s) where
  room : (i j : ℕ) → i < n → j < n → entry_place n i j + weight_words ≤ length s
  room i j hi hj = omega (arith, place_room n i j hi hj, f.square.long)

  pub entry_valid : (i j : ℕ) → i < n → j < n → Valid cs (matrix_in (length cs) n s i j)
  unfolding cell
  entry_valid i j hi hj = well_valid cap cs (words_at s (entry_place n i j)) (well_read cap cs (words_at s (entry_place n i j)) (f.reads i j hi hj))

  pub entry_padded : (i j : ℕ) → i < n → j < n → pad_weight places (matrix_in (length cs) n s i j) ≡ matrix_in places n s i j
  unfolding cell
  entry_padded i j hi hj = decoded_pad cap places cs (words_at s (entry_place n i j)) (words_length s (entry_place n i j) (room i j hi hj)) (well_read cap cs (words_at s (entry_place n i j)) (f.reads i j hi hj))

-- what is well formed in the places is so in the language
pub formed_unpadded : (cap : ℕ) (cs : List Component) (n : ℕ) (s : List ℕ) → length cs ≤ places → Formed cap (padded places cs) n s → Formed cap cs n s
formed_unpadded cap cs n s h f = record {
  square = f.square;
  reads = λ i j hi hj. sym (well_pad cap cs s (entry_place n i j) h (omega (arith, place_room n i j hi hj, f.square.long))) ∙ f.reads i j hi hj;
}

-- ---- sums

none_fits : (n : ℕ) → sums_fit (padded n []) (filled n []) ≡ true
none_fits zero = refl
none_fits (suc n) = none_fits n

sums_pad : (n : ℕ) (cs : List Component) (xs : List ℕ) → length cs ≤ n → ValidValues cs xs → sums_fit (padded n cs) (filled n xs) ≡ sums_fit cs xs
sums_pad n [] [] h v = none_fits n
sums_pad n [] (x ∷ xs) h v = absurd v
sums_pad n (c ∷ cs) [] h v = absurd v
sums_pad zero (c ∷ cs) (x ∷ xs) h v = absurd (omega arith)
sums_pad (suc n) (c ∷ cs) (x ∷ xs) h v = ap (λ (b : Bool). sum_fits c x && b) (sums_pad n cs xs (omega arith) v.1)

pub fits_padded : (cs : List Component) (w : Weight) → length cs ≤ places → Valid cs w → weight_fits (padded places cs) (pad_weight places w) ≡ weight_fits cs w
fits_padded cs none h v = refl
fits_padded cs (route xs) h v = sums_pad places cs xs h v

-- ---- equality

same_zeros : (n : ℕ) → same_values (filled n []) (filled n []) ≡ true
same_zeros zero = refl
same_zeros (suc n) = same_zeros n

same_filled : (n : ℕ) (cs : List Component) (xs ys : List ℕ) → length cs ≤ n → ValidValues cs xs → ValidValues cs ys → same_values (filled n xs) (filled n ys) ≡ same_values xs ys
same_filled n [] [] [] h v w = same_zeros n
same_filled n [] [] (y ∷ ys) h v w = absurd w
same_filled n [] (x ∷ xs) ys h v w = absurd v
same_filled n (c ∷ cs) [] ys h v w = absurd v
same_filled n (c ∷ cs) (x ∷ xs) [] h v w = absurd w
same_filled zero (c ∷ cs) (x ∷ xs) (y ∷ ys) h v w = absurd (omega arith)
same_filled (suc n) (c ∷ cs) (x ∷ xs) (y ∷ ys) h v w = ap (λ (b : Bool). eqb x y && b) (same_filled n cs xs ys (omega arith) v.1 w.1)

pub same_padded : (cs : List Component) (v w : Weight) → length cs ≤ places → Valid cs v → Valid cs w → same (pad_weight places v) (pad_weight places w) ≡ same v w
same_padded cs none none h p q = refl
same_padded cs none (route ys) h p q = refl
same_padded cs (route xs) none h p q = refl
same_padded cs (route xs) (route ys) h p q = same_filled places cs xs ys h p q

-- ---- runs

-- the step is one of a network of n nodes
abbrev pub StepIn : ℕ → Step → Type 0
StepIn n (row i) = i < n
StepIn n (settle j) = j < n

abbrev pub StepsIn : ℕ → List Step → Type 0
StepsIn n [] = Unit {0}
StepsIn n (s ∷ steps) = StepIn n s × StepsIn n steps

module _ (cs : List Component) (p : PerPlace Component) (h : length cs ≤ places) (placed : places_of p ≡ padded places cs) (sound : Sound cs) (n : ℕ) (a : List ℕ) where
  abbrev 𝓟 : List Component
  𝓟 = places_of p

  abbrev To : Matrix → Matrix → Type 0
  To = GoesTo (language cs) (language 𝓟) (Valid cs) (pad_weight places) n

  pub embedded : Embedding (language cs) (language 𝓟) (Valid cs) (pad_weight places)
  embedded = subst (λ (ds : List Component). Embedding (language cs) (language ds) (Valid cs) (pad_weight places)) (sym placed) (padding places cs h sound)

  -- a buffer that is well formed in the places
  pub buffer_goes : (cap : ℕ) (s : List ℕ) → Formed cap 𝓟 n s → To (matrix_in (length cs) n s) (matrix_in places n s)
  buffer_goes cap s f i j hi hj =
      let g : Formed cap cs n s = formed_unpadded cap cs n s h (subst (λ (ds : List Component). Formed cap ds n s) placed f) in
      record { kind = entry_valid cap cs n s h g i j hi hj; to = entry_padded cap cs n s h g i j hi hj }

  pub words_go : (R S : Matrix) → To R S → matrix_words n R ≡ matrix_words n S
  words_go R S g = blocks_cong _ _ n (λ i hi. blocks_cong _ _ n (λ j hj. sym (words_pad (R i j)) ∙ ap words (g i j hi hj).to))

  module _ (A B : Matrix) (arcs : To A B) where
    pub fits_go : (R S : Matrix) → To R S → (i : ℕ) → i < n → row_fits 𝓟 n B S i ≡ row_fits cs n A R i
    fits_go R S g i hi = every_cong _ _ n (λ j hj.
        let q : Goes (language cs) (language 𝓟) (Valid cs) (pad_weight places) (routed (language cs) n A R i j) (routed (language 𝓟) n B S i j) = routed_goes (language cs) (language 𝓟) (Valid cs) (pad_weight places) embedded n A B arcs R S g i j hi hj in
        ap (weight_fits 𝓟) (sym q.to) ∙ ap (λ (ds : List Component). weight_fits ds (pad_weight places (routed (language cs) n A R i j))) placed ∙ fits_padded cs (routed (language cs) n A R i j) h q.kind)

    step_fits_go : (R S : Matrix) → To R S → (s : Step) → StepIn n s → step_fits 𝓟 n B S s ≡ step_fits cs n A R s
    step_fits_go R S g (row i) l = fits_go R S g i l
    step_fits_go R S g (settle j) l = refl

    pub step_go : (R S : Matrix) → To R S → (s : Step) → To (step (language cs) n A s R) (step (language 𝓟) n B s S)
    step_go R S g s = step_goes (language cs) (language 𝓟) (Valid cs) (pad_weight places) embedded n A B arcs s R S g

    -- the equation is the language's
    pub solves_go : (R S : Matrix) → To R S → solves 𝓟 n B S ≡ solves cs n A R
    solves_go R S g = every_cong _ _ n (λ i hi. every_cong _ _ n (λ j hj.
        let q : Goes (language cs) (language 𝓟) (Valid cs) (pad_weight places) (routed (language cs) n A R i j) (routed (language 𝓟) n B S i j) = routed_goes (language cs) (language 𝓟) (Valid cs) (pad_weight places) embedded n A B arcs R S g i j hi hj in
        ap₂ same (sym q.to) (sym (g i j hi hj).to) ∙ same_padded cs (routed (language cs) n A R i j) (R i j) h q.kind (g i j hi hj).kind))

  -- the fresh matrix has the language's words
  pub fresh_words : matrix_words n (fresh (language 𝓟)) ≡ matrix_words n (fresh (language cs))
  fresh_words = sym (words_go (fresh (language cs)) (fresh (language 𝓟)) (λ i j hi hj. fresh_goes (language cs) (language 𝓟) (Valid cs) (pad_weight places) embedded i j))

  -- where a step is done: the words that it leaves stand for the stepped matrix, and are well formed again
  record Again (r : List ℕ) (s : Step) : Type 0 where
    well : Given 𝓟 n a (step_left 𝓟 n a r s)
    same : (u v : ℕ) → u < n → v < n → matrix_in places n (step_left 𝓟 n a r s) u v ≡ step (language 𝓟) n (matrix_in places n a) s (matrix_in places n r) u v

  again : (r : List ℕ) → Given 𝓟 n a r → (s : Step) → step_fits 𝓟 n (matrix_in places n a) (matrix_in places n r) s ≡ true → Again r s
  unfolding step_left
  again r g (row i) e = record {
    well = row_given p n a r g i _ refl;
    same = λ u v hu hv. row_entries p n a r g i u v hu hv ∙ rw e;
  }
  again r g (settle j) e = record { well = settle_given p n a r g j _ refl; same = settle_entries p n a r g j }

  moved : (R S T : Matrix) → To R S → ((u v : ℕ) → u < n → v < n → T u v ≡ S u v) → To R T
  moved R S T g e u v hu hv = record { kind = (g u v hu hv).kind; to = (g u v hu hv).to ∙ sym (e u v hu hv) }

  pub run_bridge : (arcs : To (matrix_in (length cs) n a) (matrix_in places n a)) (steps : List Step) (r : List ℕ) (R : Matrix) → Given 𝓟 n a r → To R (matrix_in places n r) → StepsIn n steps
      → (run_done 𝓟 n a r steps ≡ done_of cs n (matrix_in (length cs) n a) R steps) × (run_left 𝓟 n a r steps ≡ matrix_words n (run_of cs n (matrix_in (length cs) n a) R steps))
  unfolding run_done run_left run_of done_of step_left
  run_bridge arcs [] r R g t k = (refl, sym (matrix_self n r g.routes.square) ∙ sym (words_go R (matrix_in places n r) t))
  run_bridge arcs (s ∷ steps) r R g t k =
      rw (sym (step_fits_go (matrix_in (length cs) n a) (matrix_in places n a) arcs R (matrix_in places n r) t s k.0))
      (go (step_fits 𝓟 n (matrix_in places n a) (matrix_in places n r) s) refl
      (λ e. run_bridge arcs steps (step_left 𝓟 n a r s) (step (language cs) n (matrix_in (length cs) n a) s R) (again r g s e).well (next e) k.1))
    where
      next : step_fits 𝓟 n (matrix_in places n a) (matrix_in places n r) s ≡ true → To (step (language cs) n (matrix_in (length cs) n a) s R) (matrix_in places n (step_left 𝓟 n a r s))
      next e = moved (step (language cs) n (matrix_in (length cs) n a) s R) (step (language 𝓟) n (matrix_in places n a) s (matrix_in places n r)) (matrix_in places n (step_left 𝓟 n a r s)) (step_go (matrix_in (length cs) n a) (matrix_in places n a) arcs R (matrix_in places n r) t s) (again r g s e).same

      kept : step_fits 𝓟 n (matrix_in places n a) (matrix_in places n r) s ≡ false → step_left 𝓟 n a r s ≡ matrix_words n R
      kept e = rw e (sym (words_go R (matrix_in places n r) t))

      go : (b : Bool) → step_fits 𝓟 n (matrix_in places n a) (matrix_in places n r) s ≡ b
          → (step_fits 𝓟 n (matrix_in places n a) (matrix_in places n r) s ≡ true
          → (run_done 𝓟 n a (step_left 𝓟 n a r s) steps ≡ done_of cs n (matrix_in (length cs) n a) (step (language cs) n (matrix_in (length cs) n a) s R) steps)
          × (run_left 𝓟 n a (step_left 𝓟 n a r s) steps ≡ matrix_words n (run_of cs n (matrix_in (length cs) n a) (step (language cs) n (matrix_in (length cs) n a) s R) steps)))
          → (cond b (suc (run_done 𝓟 n a (step_left 𝓟 n a r s) steps)) 0 ≡ cond b (suc (done_of cs n (matrix_in (length cs) n a) (step (language cs) n (matrix_in (length cs) n a) s R) steps)) 0)
          × (cond b (run_left 𝓟 n a (step_left 𝓟 n a r s) steps) (step_left 𝓟 n a r s) ≡ matrix_words n (cond b (run_of cs n (matrix_in (length cs) n a) (step (language cs) n (matrix_in (length cs) n a) s R) steps) R))
      go false e ih = (refl, kept e)
      go true e ih = (ap suc (ih e).0, (ih e).1)
