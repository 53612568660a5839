-- The words of a small network's lists fit the buffers that are lent for them.
use Prim.Native.Nat.{◌*◌, ◌≤◌}
use native.Mathlib.Omega.{arith}
use Rattle.weights.specs.Sizes.{weight_words, entry_words}
use Rattle.fields.specs.declared.Head.{Head}
use Rattle.fields.specs.Parts.{SmallHead}
use Rattle.records.specs.declared.Listing.TheVariants.{Arcs, Attachments}
use Rattle.contents.specs.Contents.{size_of}
use Rattle.contents.proofs.Tables.{product}

pub size_arcs : (h : Head) → SmallHead h → size_of h Arcs ≤ 1024
unfolding size_of
size_arcs h s = omega (arith, product h.n (h.n * weight_words) 16 64 s.nodes (omega (arith, s.nodes)))

pub size_attachments : (h : Head) → SmallHead h → size_of h Attachments ≤ 2560
unfolding size_of
size_attachments h s = omega (arith, product h.n (h.m * entry_words) 16 160 s.nodes (omega (arith, s.destinations)))
