-- Two answers that meet one contract are equal.
use Prim.Native.Nat.{ℕ}
use mathlib.Core.Path.{◌≡◌, refl, sym, ap, ◌∙◌}
use mathlib.Core.List.{List}
use Rattle.std.specs.Prelude.{Option, Some, None, Result, Ok, Err}
use native.Mathlib.Omega.{arith}
use Rattle.refusals.proofs.OneToOne.{told_one, told_not_done}
use Rattle.numbers.specs.declared.Node.{Node}
use Rattle.hops.specs.NextHop.{found_at}
use Rattle.hops.specs.Calls.{HopRow, hop_row, hop_said}
use Rattle.hops.proofs.Rule.{some_one}
use Rattle.guards.specs.OnNetwork.{OnNetwork}
use Rattle.refusals.specs.declared.Refusal.{Refusal}

node_one : (k m : Node) → k.0 ≡ m.0 → k ≡ m
node_one k m e = λ i. record { 0 = e i }

some_not : {k : ℕ} → ◌≡◌ {A = Option ℕ} (Some k) None → ⊥
some_not e = let z : ◌≡◌ {A = ℕ} 1 0 = cc in omega arith

pub found_one : (f g : Option Node) → found_at f ≡ found_at g → f ≡ g
found_one (Some k) (Some m) e = ap Some (node_one k m (some_one e))
found_one (Some k) None e = absurd (some_not e)
found_one None (Some m) e = absurd (some_not (sym e))
found_one None None e = refl

hop_one : (x y : Result (Option Node) Refusal) → hop_said x ≡ hop_said y → x ≡ y
hop_one (Ok f) (Ok g) e = ap Ok (found_one f g (ap (λ (w : HopRow). w.node) e))
hop_one (Ok f) (Err r) e = absurd (told_not_done r (sym (ap (λ (w : HopRow). w.told) e)))
hop_one (Err r) (Ok g) e = absurd (told_not_done r (ap (λ (w : HopRow). w.told) e))
hop_one (Err r) (Err s) e = ap Err (told_one r s (ap (λ (w : HopRow). w.told) e))

pub hop_answers_equal : (N : OnNetwork) (r : List ℕ) (i j : ℕ) (x y : Result (Option Node) Refusal) → hop_said x ≡ hop_row N r i j → hop_said y ≡ hop_row N r i j → x ≡ y
hop_answers_equal N r i j x y p q = hop_one x y (p ∙ sym q)
