-- The body of a file that passes has no fault.
use mathlib.Core.Path.{◌≡◌, refl, subst}
use mathlib.Core.List.{List}
use mathlib.Core.Bool.{Bool, true, false, cond}
use Prim.Native.Nat.{ℕ}
use native.Mathlib.Omega.{arith}
use Rattle.refusals.specs.declared.Refusal.{Refusal}
use Rattle.refusals.specs.declared.Refusal.TheVariants.{Bytes}
use Rattle.fields.specs.declared.Head.{Head}
use Rattle.fields.specs.Header.{head_read, sound_head}
use Rattle.records.specs.Records.{body_check}
use Rattle.files.specs.File.{count_right, head_once_checked, with_body, file_read}
use Rattle.refusals.specs.Checks.{Check}
use Rattle.std.specs.Prelude.{Ok, Err, Result}
use Rattle.fields.specs.declared.SoundHead.{SoundHead}

-- a head that is refused is not taken
pub never_sound : {X : Type 0} {r : Refusal} {next : ℕ} {h : Head} → Err r ≡ sound_head next h → X
never_sound e = let z : ◌≡◌ {A = ℕ} 0 1 = cc in absurd (omega arith)

-- the body of a file that passes passes
pub checked_body : (s : List ℕ) (next : ℕ) (h : Head) → file_read s ≡ sound_head next h → body_check s h next ≡ Ok tt
unfolding file_read
checked_body s next h e = go (count_right s) (head_read s) e
  where
    body : (t : SoundHead) (c : Check) → body_check s t.head t.next ≡ c → head_once_checked t.next t.head c ≡ sound_head next h → body_check s h next ≡ Ok tt
    body t (Ok _) f e =
        let same : t ≡ record { next = next; head = h } = cc in
        subst (λ (x : SoundHead). body_check s x.head x.next ≡ Ok tt) same f
    body t (Err r) f e = never_sound e

    go : (b : Bool) (x : Result SoundHead Refusal) → cond b (with_body s x) (Err (Bytes 0 0)) ≡ sound_head next h → body_check s h next ≡ Ok tt
    go false x e = never_sound e
    go true (Err r) e = never_sound e
    go true (Ok t) e = body t (body_check s t.head t.next) refl e
