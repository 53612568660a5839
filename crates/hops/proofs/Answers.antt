-- From what the search says in the places to the call's own words: the language's next hop, and the answer's row.
use Prim.Native.Nat.{ℕ, zero, suc, ◌+◌, ◌≤◌, ◌<◌}
use mathlib.Core.Path.{◌≡◌, refl, sym, ap, ap₂, ◌∙◌}
use mathlib.Core.Bool.{Bool, cond, not, ◌&&◌, ◌||◌}
use mathlib.Core.List.{List, [], ◌∷◌}
use Rattle.std.specs.Prelude.{Option, Some, None, Ok, Err}
use native.Mathlib.Omega.{arith}
use lib.Dec.{eqb}
use lib.ListN.{length}
use Rattle.refusals.specs.declared.Refusal.{Refusal}
use Rattle.refusals.specs.Checks.{answer_told, if_passed, Check}
use Rattle.std.specs.Result.{result_and}
use Rattle.refusals.specs.Cases.{Case}
use Rattle.refusals.proofs.First.{both_pass}
use Rattle.algebra.proofs.Embedding.{Goes, GoesTo, join_goes}
use Rattle.weights.specs.declared.Component.{Component}
use Rattle.weights.specs.declared.PerPlace.{PerPlace}
use Rattle.weights.specs.Sizes.{places, arc_sum, matrix_sum}
use Rattle.weights.specs.Weights.{Weight, Valid, Sound, language}
use Rattle.weights.specs.Languages.{padded, places_of}
use Rattle.weights.specs.Values.{same}
use Rattle.weights.proofs.Padding.{pad_weight}
use Rattle.weights.proofs.Checking.{few}
use Rattle.matrices.specs.Buffers.{matrix_in}
use Rattle.matrices.specs.Steps.{Matrix, Given}
use Rattle.guards.specs.Checks.{node_case}
use Rattle.routes.specs.Calls.{equation_check}
use Rattle.routes.proofs.Bridge.{buffer_goes, embedded, same_padded}
use Rattle.routes.proofs.Order.{rest_goes_on, two_checks, placed_sound}
use Rattle.guards.proofs.Singles.{node_passed}
use Rattle.hops.specs.NextHop.{is_hop, lowest_from, hop_of, found_at}
use Rattle.hops.specs.Calls.{hop_check, HopRow, hop_row, hop_said}
use Rattle.guards.specs.OnNetwork.{OnNetwork, components, matrix_on, arcs_on}
use Rattle.guards.specs.Entrance.{Placed}
use Rattle.numbers.specs.declared.Node.{Node}

-- ---- in the places and in the language

lowest_cong : (t u : ℕ → Bool) (k c : ℕ) → ((m : ℕ) → m < k + c → t m ≡ u m) → lowest_from t k c ≡ lowest_from u k c
unfolding lowest_from
lowest_cong t u k zero e = refl
lowest_cong t u k (suc c) e = ap₂ (λ (b : Bool) (o : Option ℕ). cond b (Some k) o) (e k (omega arith)) (lowest_cong t u (suc k) c (λ m h. e m (omega arith)))

module _ (cs : List Component) (p : PerPlace Component) (h : length cs ≤ places) (placed : places_of p ≡ padded places cs) (sound : Sound cs) (n : ℕ) (A B R S : Matrix)
    (arcs : GoesTo (language cs) (language (places_of p)) (Valid cs) (pad_weight places) n A B) (routes : GoesTo (language cs) (language (places_of p)) (Valid cs) (pad_weight places) n R S) where
  same_go : {v w x y : Weight} → Goes (language cs) (language (places_of p)) (Valid cs) (pad_weight places) v x → Goes (language cs) (language (places_of p)) (Valid cs) (pad_weight places) w y → same x y ≡ same v w
  same_go {v} {w} f g = sym (ap₂ same f.to g.to) ∙ same_padded cs v w h f.kind g.kind

  test_goes : (i j k : ℕ) → i < n → j < n → k < n → is_hop (places_of p) B S i j k ≡ is_hop cs A R i j k
  test_goes i j k hi hj hk =
      ap (λ (b : Bool). not (eqb k i) && b) (same_go (join_goes (language cs) (language (places_of p)) (Valid cs) (pad_weight places) (embedded cs p h placed sound n []) (arcs i k hi hk) (routes k j hk hj)) (routes i j hi hj))

  pub hop_goes : (i j : ℕ) → i < n → j < n → hop_of (places_of p) n B S i j ≡ hop_of cs n A R i j
  hop_goes i j hi hj =
      ap₂ (λ (b : Bool) (o : Option ℕ). cond (eqb i j || b) None o) (same_go (routes i j hi hj) (record { kind = tt; to = refl }))
      (lowest_cong _ _ 0 n (λ k hk. test_goes i j k hi hj (omega arith)))

-- ---- the call

-- the row by what the checks give
abbrev pub hop_row_by : Check → Option ℕ → HopRow
hop_row_by c k = record { told = answer_told c; node = if_passed c k None }

module _ (N : OnNetwork) (r : List ℕ) (i j : ℕ) where
  open N use {n, arcs}

  abbrev pair : List Case
  pair = node_case 0 n i ∷ node_case 1 n j ∷ []

  abbrev rule : Option ℕ
  rule = hop_of (components N) n (arcs_on N) (matrix_on N r) i j

  by_check : (c : Check) → hop_check N r i j ≡ c → hop_row_by c rule ≡ hop_row N r i j
  by_check c e = ap (λ (c : Check). hop_row_by c rule) (sym e)

  module _ (e : equation_check N r ≡ Ok tt) {first second both : Check} (qi : first ≡ (node_case 0 n i).check) (qj : second ≡ (node_case 1 n j).check) (q : both ≡ result_and first second) where
    pair_first : {c : Check} → both ≡ c → hop_check N r i j ≡ c
    pair_first h = rest_goes_on N r pair e (sym (two_checks (node_case 0 n i).check (node_case 1 n j).check qi qj) ∙ sym q ∙ h)

    pub pair_refused : (x : Refusal) → both ≡ Err x → hop_said (Err x) ≡ hop_row N r i j
    pair_refused x h = by_check (Err x) (pair_first h)

    module _ (p : PerPlace Component) (o : Placed N.language p) (g : Given (places_of p) n arcs r) (passed : both ≡ Ok tt) where
      pub pair_in : (i < n) × (j < n)
      pair_in = let h = both_pass first second (sym q ∙ passed) in (node_passed 0 n i (sym qi ∙ h.0), node_passed 1 n j (sym qj ∙ h.1))

      -- what the search found is the answer's node
      pub found_row : (f : Option Node) → found_at f ≡ hop_of (places_of p) n (matrix_in places n arcs) (matrix_in places n r) i j → hop_row_by (Ok tt) (found_at f) ≡ hop_row N r i j
      found_row f found =
          let s = placed_sound N.language p o in
          ap (hop_row_by (Ok tt)) (found ∙ hop_goes (components N) p (few N.language) o.placed s n (arcs_on N) (matrix_in places n arcs) (matrix_on N r) (matrix_in places n r)
          (buffer_goes (components N) p (few N.language) o.placed s n arcs arc_sum arcs g.arcs) (buffer_goes (components N) p (few N.language) o.placed s n arcs matrix_sum r g.routes) i j pair_in.0 pair_in.1)
          ∙ by_check (Ok tt) (pair_first passed)
