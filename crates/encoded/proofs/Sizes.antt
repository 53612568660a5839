-- The numbers of a file that is taken are in their ranges, whatever its bytes are.
use Prim.Native.Nat.{ℕ, suc}
use mathlib.Core.Path.{◌≡◌, sym, ap, ◌∙◌}
use mathlib.Core.List.{List}
use native.Mathlib.Omega.{arith}
use Rattle.weights.specs.declared.Language.{Language}
use Rattle.weights.specs.Sizes.{product_tags}
use Rattle.fields.specs.declared.Head.{Head}
use Rattle.fields.specs.Nested.{nothing}
use Rattle.fields.proofs.Advancing.{advances}
use Rattle.files.specs.File.{file_read}
use Rattle.encoded.specs.Taken.{InRanges}
use Rattle.encoded.proofs.Taken.{head_at, counted_head, fields_at}
use Rattle.fields.specs.Header.{sound_head}

pub head_in_ranges : (s : List ℕ) (next : ℕ) (h : Head) → file_read s ≡ sound_head next h → InRanges h
head_in_ranges s next h e =
    let at = head_at s next h (counted_head s next h e).1 in
    let f = fields_at s at.fields in
    let read = rw at.taken at (advances (suc product_tags) s 8 nothing (omega arith)) in
    let count : at.found.language.count ≡ h.language.count = ap (λ (l : Language). l.count) at.language_is in
    record {
      nodes = (omega (arith, f.nodes.0, at.n_is), omega (arith, f.nodes.1, at.n_is));
      destinations = omega (arith, f.destinations, at.m_is);
      no_mode = λ q. sym at.mode_is ∙ f.no_mode (at.m_is ∙ q);
      some_mode = λ q. let w = f.some_mode (λ z. q (sym at.m_is ∙ z)) in (omega (arith, w.0, at.mode_is), omega (arith, w.1, at.mode_is));
      components = (omega (arith, read.counted, count), omega (arith, read.counted, read.few, count));
    }
