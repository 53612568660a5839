-- The fuel of a language's definition: its end is never met, whatever stands there, and more of it changes nothing.
use Prim.Native.Nat.{ℕ, zero, suc, ◌+◌, ◌≤◌, ◌<◌}
use mathlib.Core.Path.{◌≡◌, refl, sym, ap, ◌∙◌}
use mathlib.Core.List.{List}
use mathlib.Core.Bool.{cond}
use native.Mathlib.Nat.{suc-add}
use native.Mathlib.Omega.{arith}
use borrow.Author.Tests.{leb-false}
use lib.Dec.{leb, eqb}
use lib.ListN.{length, get_or}
use Rattle.refusals.specs.declared.Refusal.TheVariants.{Bytes, BadCount}
use Rattle.weights.specs.Sizes.{product_tags}
use Rattle.fields.specs.declared.Found.{Found}
use Rattle.fields.specs.Nested.{with_tag, product_tag, component_read, after, language_from, language_at}
use Rattle.fields.specs.Fuel.{ending_with}
use Rattle.fields.specs.Parts.{Onward}
use Rattle.fields.proofs.Advancing.{advances, otherwise, after_same, enough}
use Rattle.std.specs.Prelude.{Result, Err}
use Rattle.fields.specs.declared.Taken.{Taken}
use Rattle.refusals.specs.declared.Refusal.{Refusal}

pub more_fuel : (k : ℕ) (s : List ℕ) (at : ℕ) (f : Found) → f.tags ≤ product_tags → language_from (k + suc product_tags) s at f ≡ language_at s at f
more_fuel zero s at f h = refl
more_fuel (suc k) s at f h = rw suc-add (sym (enough (k + suc product_tags) s at f h (omega arith)) ∙ more_fuel k s at f h)

pub never_ends : (x : ℕ → Found → Result Taken Refusal) (fuel : ℕ) (s : List ℕ) (at : ℕ) (f : Found) → f.tags ≤ product_tags → product_tags < fuel + f.tags
    → ending_with x fuel s at f ≡ language_from fuel s at f
unfolding language_from ending_with
never_ends x zero s at f h g = absurd (omega arith)
never_ends x (suc fuel) s at f h g =
    otherwise (leb (length s) at) (Err (Bytes 0 at)) (λ l.
    ap (λ (r : Result Taken Refusal). cond (eqb (get_or s at 0) product_tag) r (component_read s at f))
    (otherwise (leb product_tags f.tags) (Err (BadCount 0 at)) (λ b.
    let low : f.tags + 1 ≤ product_tags = omega (arith, leb-false product_tags f.tags b) in
    ap (λ (r : Result Taken Refusal). after r (ending_with x fuel s)) (never_ends x fuel s (at + 1) (with_tag f) low (omega arith))
    ∙ after_same (language_from fuel s (at + 1) (with_tag f)) {k = ending_with x fuel s} {l = language_from fuel s} (λ n q e.
    let a : Onward s (at + 1) (with_tag f) n q = rw e at (advances fuel s (at + 1) (with_tag f) low) in
    never_ends x fuel s n q a.few (omega (arith, a.grown))))))

-- so a file's language is the same whatever stands at the end
pub end_unmet : (x : ℕ → Found → Result Taken Refusal) (s : List ℕ) (at : ℕ) (f : Found) → f.tags ≤ product_tags → ending_with x (suc product_tags) s at f ≡ language_at s at f
end_unmet x s at f h = never_ends x (suc product_tags) s at f h (omega arith)
