-- The text by the reader's answer: what the calls are given after a read that is done, and the refusal of one that is not.
use Prim.Native.Nat.{ℕ, ◌+◌, ◌*◌, ◌≤◌}
use mathlib.Core.Path.{◌≡◌, sym, ap, ◌∙◌}
use mathlib.Core.List.{List}
use borrow.Author.Tests.{le-ltb}
use lib.ListN.{length, take, drop}
use lib.Seq.{take_at}
use Rattle.refusals.specs.declared.Refusal.{Refusal}
use Rattle.refusals.specs.Told.{told}
use Rattle.refusals.proofs.OneToOne.{told_not_done}
use Rattle.weights.specs.declared.Language.{Language}
use Rattle.weights.specs.Sizes.{weight_words, entry_words}
use Rattle.fields.specs.declared.Head.{Head}
use Rattle.fields.specs.declared.SoundHead.{SoundHead}
use Rattle.std.specs.Prelude.{Result, Ok, Err}
use Rattle.file_bytes.specs.Bytes.{two_at}
use Rattle.records.specs.declared.Listing.{Listing}
use Rattle.records.specs.declared.Listing.TheVariants.{Arcs, Attachments}
use Rattle.records.specs.Records.{list_end}
use Rattle.files.specs.Answers.{problem_read, Row, head_row, sized, ReadSays}
use Rattle.files.specs.File.{file_read}
use Rattle.contents.specs.Contents.{words_each, columns, size_of, listed_words, listed_table, list_over}
use Rattle.contents.proofs.Tables.{length_grid}
use Rattle.contents.proofs.Storing.{listed_wide}
use Rattle.encoded.proofs.WellFormed.{done_means}
use Rattle.texts.specs.Lines.{refused_line}
use Rattle.printing.specs.Printed.{text_of, text_read, printed}
use Rattle.guards.specs.OnNetwork.{on_network}

-- ---- the lists

length_table : (s : List ℕ) (h : Head) (list : Listing) (first count : ℕ) → length (listed_table s h list first count) ≡ size_of h list
unfolding listed_table size_of
length_table s h list first count =
    length_grid (words_each list) (listed_words s h list first count) (listed_wide s h list first count) h.n (columns h list)

-- the part of a buffer that a list was written into is the list's table
list_lent : (s : List ℕ) (h : Head) (list : Listing) (at : ℕ) (buffer : List ℕ)
    → take (size_of h list) (list_over s h list at buffer) ≡ listed_table s h list (at + 2) (two_at s at)
list_lent s h list at buffer =
    take_at (listed_table s h list (at + 2) (two_at s at)) (drop (size_of h list) buffer) (size_of h list) (length_table s h list (at + 2) (two_at s at))

-- ---- the text

module _ (s a m a' m' : List ℕ) where
  -- after a read that is done the text is that of the parts of the two buffers
  pub text_done : (n k mode : ℕ) (l : Language) → ReadSays s a m a' m' (problem_read n k mode l)
      → printed s ≡ text_of (on_network l n (take (n * (n * weight_words)) a')) k mode (take (n * (k * entry_words)) m')
  unfolding printed size_of
  text_done n k mode l w =
      let d = done_means s a m a' m' n k mode l w in
      let h = d.head in
      let arcs : take (h.n * (h.n * weight_words)) a' ≡ listed_table s h Arcs (d.next + 2) (two_at s d.next) =
      ap (take (h.n * (h.n * weight_words))) d.arcs_are ∙ list_lent s h Arcs d.next a in
      let mid : ℕ = list_end s h Arcs d.next in
      let mapping : take (h.n * (h.m * entry_words)) m' ≡ listed_table s h Attachments (mid + 2) (two_at s mid) =
      ap (take (h.n * (h.m * entry_words))) d.mapping_is ∙ list_lent s h Attachments mid m in
      ap (text_read s) d.read
      ∙ ap (λ (x : List ℕ). text_of (on_network h.language h.n x) h.m h.mode (listed_table s h Attachments (mid + 2) (two_at s mid))) (sym arcs)
      ∙ ap (text_of (on_network h.language h.n (take (h.n * (h.n * weight_words)) a')) h.m h.mode) (sym mapping)
      ∙ ap (λ (x : ℕ). text_of (on_network h.language x (take (x * (x * weight_words)) a')) h.m h.mode (take (x * (h.m * entry_words)) m')) d.n_is
      ∙ ap (λ (x : ℕ). text_of (on_network h.language n (take (n * (n * weight_words)) a')) x h.mode (take (n * (x * entry_words)) m')) d.m_is
      ∙ ap (λ (x : ℕ). text_of (on_network h.language n (take (n * (n * weight_words)) a')) k x (take (n * (k * entry_words)) m')) d.mode_is
      ∙ ap (λ (x : Language). text_of (on_network x n (take (n * (n * weight_words)) a')) k mode (take (n * (k * entry_words)) m')) d.language_is

  -- where the buffers are long enough, a refusal is the file's own
  pub text_refused : (r : Refusal) → 1024 ≤ length a → 2560 ≤ length m → ReadSays s a m a' m' (Err r) → printed s ≡ refused_line (told r)
  unfolding printed sized
  text_refused r g h w = go (file_read s) (rw (le-ltb _ _ g, le-ltb _ _ h) at (ap (λ (x : Row). x.told) w.answer))
    where
      go : (x : Result SoundHead Refusal) → told r ≡ (head_row x).told → text_read s x ≡ refused_line (told r)
      go (Ok k) e = absurd (told_not_done r e)
      go (Err q) e = ap refused_line (sym e)
