-- The entrance of the calls: what it refuses the call refuses, what is known once it is passed, and that its cases are exact.
use mathlib.Core.Path.{◌≡◌, sym, ap, ap₂, subst, ◌∙◌}
use mathlib.Core.Bool.{Bool, true}
use mathlib.Core.List.{List, [], ◌∷◌, ◌++◌}
use Rattle.refusals.specs.declared.Refusal.{Refusal}
use Rattle.refusals.specs.declared.Refusal.TheVariants.{Law}
use Rattle.refusals.specs.Checks.{unless, first_of, Check}
use Rattle.std.specs.Result.{result_and}
use Rattle.refusals.specs.Cases.{Case, check_of, NoneDue}
use Rattle.refusals.proofs.First.{unless_passes, both_pass, stops, goes_on, result_and_cong, result_and_assoc}
use Rattle.refusals.proofs.Cases.{AllExact, check_append, in_turn, append_exact, ◌and◌, ◌then◌}
use Rattle.weights.specs.declared.Component.{Component}
use Rattle.weights.specs.declared.Language.{Language}
use Rattle.weights.specs.declared.PerPlace.{PerPlace}
use Rattle.weights.specs.Sizes.{places}
use Rattle.weights.specs.Weights.{Sound}
use Rattle.weights.specs.Laws.{test_d, test_u}
use Rattle.weights.specs.Languages.{components_of, language_cases, language_check, padded, places_of, SmallLimits}
use Rattle.weights.proofs.Padding.{test_d_pad, test_u_pad, sound_pad}
use Rattle.weights.proofs.Checking.{few, check_sound}
use Rattle.weights.proofs.Cases.{count_exact, limit_exact, limit_sound}
use Rattle.guards.specs.Checks.{law_d_case, law_u_case, call_cases}
use Rattle.guards.specs.Entrance.{laws_check, entrance_check, Entered}
use Rattle.guards.proofs.Cases.{law_d_exact, law_u_exact}
use Rattle.std.specs.Prelude.{Ok, Err}

-- ---- the laws, in the places and in the language

pub laws_same : (l : Language) (p : PerPlace Component) → places_of p ≡ padded places (components_of l) → laws_check (places_of p) ≡ laws_check (components_of l)
laws_same l p e = ap₂ (λ (x y : Bool). first_of (unless x (Law 1 0) ∷ unless y (Law 2 0) ∷ [])) (ap test_d e ∙ test_d_pad places (components_of l) (few l)) (ap test_u e ∙ test_u_pad places (components_of l) (few l))

pub laws_passed : (cs : List Component) → laws_check cs ≡ Ok tt → (test_d cs ≡ true) × (test_u cs ≡ true)
laws_passed cs e =
    let h = both_pass (law_d_case cs).check (first_of ((law_u_case cs).check ∷ [])) e in
    (unless_passes (test_d cs) (Law 1 0) h.0, unless_passes (test_u cs) (Law 2 0) (both_pass (law_u_case cs).check (Ok tt) h.1).0)

-- ---- what the code finds

module _ (l : Language) (sizes lengths : Check) where
  module _ (p : PerPlace Component) (es : sizes ≡ Ok tt) (el : language_check l ≡ Ok tt) (placed : places_of p ≡ padded places (components_of l)) where
    rest : {c : Check} → result_and lengths (laws_check (places_of p)) ≡ c → entrance_check l sizes lengths ≡ c
    rest e = goes_on es (goes_on el (ap (result_and lengths) (sym (laws_same l p placed)) ∙ e))

    pub by_lengths_or_laws : {x : Refusal} → result_and lengths (laws_check (places_of p)) ≡ Err x → entrance_check l sizes lengths ≡ Err x
    by_lengths_or_laws e = rest e

    pub entered : SmallLimits 65535 (places_of p) → result_and lengths (laws_check (places_of p)) ≡ Ok tt → Entered l sizes lengths p
    entered small e =
        let h = both_pass lengths (laws_check (places_of p)) e in
        let laws = laws_passed (places_of p) h.1 in
        record {
          sizes_pass = es;
          lengths_pass = h.0;
          passes = rest e;
          in_places = record {
            placed = placed;
            limits = small;
            sound = subst Sound (sym placed) (sound_pad places (components_of l) (check_sound l el));
            law_d_holds = laws.0;
            law_u_holds = laws.1;
          };
        }

-- ---- what the call answers

module _ (l : Language) (sizes lengths rest : List Case) where
  -- the call's cases go through the entrance, and on with the rest
  entrance_first : check_of (call_cases l sizes lengths rest) ≡ result_and (entrance_check l (check_of sizes) (check_of lengths)) (check_of rest)
  entrance_first =
      check_append sizes (language_cases l ++ (lengths ++ law_d_case (components_of l) ∷ law_u_case (components_of l) ∷ rest))
      ∙ ap (result_and (check_of sizes)) (check_append (language_cases l) (lengths ++ law_d_case (components_of l) ∷ law_u_case (components_of l) ∷ rest)
      ∙ ap (result_and (language_check l)) (check_append lengths (law_d_case (components_of l) ∷ law_u_case (components_of l) ∷ rest)
      ∙ ap (result_and (check_of lengths)) (check_append (law_d_case (components_of l) ∷ law_u_case (components_of l) ∷ []) rest) ∙ sym (result_and_assoc (check_of lengths) (laws_check (components_of l)) (check_of rest)))
      ∙ sym (result_and_assoc (language_check l) (result_and (check_of lengths) (laws_check (components_of l))) (check_of rest)))
      ∙ sym (result_and_assoc (check_of sizes) (result_and (language_check l) (result_and (check_of lengths) (laws_check (components_of l)))) (check_of rest))

  -- lengths are asked for only where the sizes pass
  module _ (found measured : Check) (es : found ≡ check_of sizes) (el : check_of sizes ≡ Ok tt → measured ≡ check_of lengths) where
    through : check_of (call_cases l sizes lengths rest) ≡ result_and (entrance_check l found measured) (check_of rest)
    through =
        entrance_first
        ∙ ap (λ (c : Check). result_and c (check_of rest)) (sym (result_and_cong _ _ es (λ e. ap (λ (c : Check). result_and (language_check l) (result_and c (laws_check (components_of l)))) (el e))))

    pub entrance_refuses : {x : Refusal} → entrance_check l found measured ≡ Err x → check_of (call_cases l sizes lengths rest) ≡ Err x
    entrance_refuses e = through ∙ stops _ e

    pub entrance_leaves : {c : Check} {p : PerPlace Component} → Entered l found measured p → check_of rest ≡ c → check_of (call_cases l sizes lengths rest) ≡ c
    entrance_leaves o e = through ∙ goes_on o.passes e

    pub sizes_passed : {p : PerPlace Component} → Entered l found measured p → check_of sizes ≡ Ok tt
    sizes_passed o = sym es ∙ o.sizes_pass

    pub lengths_passed : {p : PerPlace Component} → Entered l found measured p → check_of lengths ≡ Ok tt
    lengths_passed o = sym (el (sizes_passed o)) ∙ o.lengths_pass

-- ---- exactness

-- A call is exact where its own sizes and lengths are, and the rest once the sizes pass and the limits are sound.
pub call_exact : (l : Language) {sizes lengths rest : List Case} → AllExact sizes → AllExact lengths → (NoneDue sizes → Sound (components_of l) → AllExact rest) → AllExact (call_cases l sizes lengths rest)
call_exact l es el er =
    in_turn es (λ n. count_exact l and limit_exact l
    then (λ s. append_exact el (law_d_exact (components_of l) (limit_sound l s) and law_u_exact (components_of l) (limit_sound l s) and er n (limit_sound l s))))
