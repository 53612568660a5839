-- The reader's promise, way by way; and two answers that keep it are equal, with what they leave in the buffers.
use mathlib.Core.Path.{◌≡◌, sym, ap, ◌∙◌}
use mathlib.Core.List.{List}
use Prim.Native.Nat.{ℕ, ◌≤◌, ◌<◌}
use borrow.Author.Tests.{lt-ltb, le-ltb}
use lib.ListN.{length}
use Rattle.refusals.specs.declared.Refusal.{Refusal}
use Rattle.refusals.specs.declared.Refusal.TheVariants.{Length}
use Rattle.refusals.proofs.OneToOne.{told_one, told_not_done}
use Rattle.fields.specs.declared.Head.{Head}
use Rattle.records.specs.declared.Listing.TheVariants.{Arcs, Attachments}
use Rattle.records.specs.Records.{list_end}
use Rattle.files.specs.File.{file_read}
use Rattle.contents.specs.Contents.{list_over}
use Rattle.files.specs.Answers.{Row, read_said, sized, ReadSays, problem_read}
use Rattle.std.specs.Prelude.{Result, Ok, Err}
use Rattle.files.specs.declared.Problem.{Problem}
use Rattle.fields.specs.Header.{sound_head}

module _ (s a m : List ℕ) where
  pub short_arcs_lem : length a < 1024 → ReadSays s a m a m (Err (Length 1 0))
  unfolding sized
  short_arcs_lem h = record { answer = rw (lt-ltb _ _ h); arcs_hold = rw (lt-ltb _ _ h); mapping_holds = rw (lt-ltb _ _ h) }

  pub short_mapping_lem : 1024 ≤ length a → length m < 2560 → ReadSays s a m a m (Err (Length 3 0))
  unfolding sized
  short_mapping_lem g h = record {
    answer = rw (le-ltb _ _ g, lt-ltb _ _ h);
    arcs_hold = rw (le-ltb _ _ g, lt-ltb _ _ h);
    mapping_holds = rw (le-ltb _ _ g, lt-ltb _ _ h);
  }

  pub read_refused : (r : Refusal) → 1024 ≤ length a → 2560 ≤ length m → file_read s ≡ Err r → ReadSays s a m a m (Err r)
  unfolding sized
  read_refused r g h e = record {
    answer = rw (le-ltb _ _ g, le-ltb _ _ h, e);
    arcs_hold = rw (le-ltb _ _ g, le-ltb _ _ h, e);
    mapping_holds = rw (le-ltb _ _ g, le-ltb _ _ h, e);
  }

  pub read_done : (next : ℕ) (k : Head) (a' m' : List ℕ) → 1024 ≤ length a → 2560 ≤ length m → file_read s ≡ sound_head next k
      → a' ≡ list_over s k Arcs next a → m' ≡ list_over s k Attachments (list_end s k Arcs next) m
      → ReadSays s a m a' m' (problem_read k.n k.m k.mode k.language)
  unfolding sized
  read_done next k a' m' g h e u v = record {
    answer = rw (le-ltb _ _ g, le-ltb _ _ h, e);
    arcs_hold = rw (le-ltb _ _ g, le-ltb _ _ h, e) u;
    mapping_holds = rw (le-ltb _ _ g, le-ltb _ _ h, e) v;
  }

-- ---- one answer

-- two answers with one row are equal
pub answer_one : (x y : Result Problem Refusal) → read_said x ≡ read_said y → x ≡ y
answer_one (Ok p) (Ok q) e =
    let a : p.n ≡ q.n = ap (λ (r : Row). r.n) e in
    let b : p.m ≡ q.m = ap (λ (r : Row). r.m) e in
    let c : p.mode ≡ q.mode = ap (λ (r : Row). r.mode) e in
    let d : p.language ≡ q.language = ap (λ (r : Row). r.language) e in
    ap Ok (λ i. record { n = a i; m = b i; mode = c i; language = d i })
answer_one (Ok p) (Err r) e = absurd (told_not_done r (sym (ap (λ (x : Row). x.told) e)))
answer_one (Err r) (Ok p) e = absurd (told_not_done r (ap (λ (x : Row). x.told) e))
answer_one (Err r) (Err q) e = ap Err (told_one r q (ap (λ (x : Row). x.told) e))

pub read_once : {s a m a₁ m₁ a₂ m₂ : List ℕ} {r₁ r₂ : Result Problem Refusal} → ReadSays s a m a₁ m₁ r₁ → ReadSays s a m a₂ m₂ r₂ → (r₁ ≡ r₂) × (a₁ ≡ a₂) × (m₁ ≡ m₂)
read_once {r₁ = r₁} {r₂ = r₂} x y = (answer_one r₁ r₂ (x.answer ∙ sym y.answer), x.arcs_hold ∙ sym y.arcs_hold, x.mapping_holds ∙ sym y.mapping_holds)
