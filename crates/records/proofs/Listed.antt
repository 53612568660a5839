-- Records that pass their checks have their ends in the table.
use mathlib.Core.Path.{◌≡◌}
use mathlib.Core.List.{List}
use Prim.Native.Nat.{ℕ, zero, suc, ◌+◌, ◌*◌}
use native.Mathlib.Nat.{zero-mul, suc-mul, add-zero}
use native.Mathlib.Omega.{arith}
use borrow.Author.Tests.{ltb-true}
use lib.Dec.{ltb, leb}
use lib.ListN.{length}
use Rattle.refusals.specs.declared.Refusal.TheVariants.{Bytes, NoSuch}
use Rattle.refusals.specs.Checks.{unless}
use Rattle.refusals.proofs.First.{unless_passes, both_pass}
use Rattle.fields.specs.declared.Head.{Head}
use Rattle.records.specs.declared.Listing.{Listing}
use Rattle.records.specs.declared.Listing.TheVariants.{Arcs, Attachments}
use Rattle.records.specs.declared.Ends.{Ends}
use Rattle.records.specs.declared.Ends.TheVariants.{Arc, Attachment}
use Rattle.file_bytes.specs.Bytes.{two_at}
use Rattle.records.specs.Records.{ends_at, ends_check, length_of, record_check, records_check, record_list_check, list_end, body_check}
use Rattle.records.specs.Parts.{InRange, Listed}
use Rattle.std.specs.Prelude.{Ok}

pub ends_pass : (h : Head) (at : ℕ) (e : Ends) → ends_check h at e ≡ Ok tt → InRange h e
unfolding ends_check
ends_pass h at (Arc from to) f =
    let g = both_pass (unless (ltb from.0 h.n) (NoSuch 0 at)) _ f in
    (ltb-true _ _ (unless_passes _ (NoSuch 0 at) g.0), ltb-true _ _ (unless_passes _ (NoSuch 0 (at + 1)) g.1))
ends_pass h at (Attachment node to) f =
    let g = both_pass (unless (ltb node.0 h.n) (NoSuch 0 at)) _ f in
    (ltb-true _ _ (unless_passes _ (NoSuch 0 at) g.0), ltb-true _ _ (unless_passes _ (NoSuch 0 (at + 1)) g.1))

pub record_ends : (s : List ℕ) (h : Head) (list : Listing) (at low : ℕ) → record_check s h list at low ≡ Ok tt → InRange h (ends_at s list at)
unfolding record_check
record_ends s h list at low f =
    let g = both_pass (unless (leb (at + length_of h list) (length s)) (Bytes 0 at)) _ f in
    ends_pass h at (ends_at s list at) (both_pass (ends_check h at (ends_at s list at)) _ g.1).0

-- records that pass have their ends in the table
pub records_listed : (s : List ℕ) (h : Head) (list : Listing) (count at low : ℕ) → records_check s h list at low count ≡ Ok tt → Listed s h list at count
unfolding records_check
records_listed s h list zero at low f e l = absurd (omega arith)
records_listed s h list (suc count) at low f zero l =
    rw (zero-mul, add-zero) (record_ends s h list at low (both_pass (record_check s h list at low) _ f).0)
records_listed s h list (suc count) at low f (suc e) l =
    let q : at + suc e * length_of h list ≡ at + length_of h list + e * length_of h list = omega (arith, suc-mul e (length_of h list)) in
    rw q (records_listed s h list count (at + length_of h list) (two_at s at + 1) (both_pass (record_check s h list at low) _ f).1 e (omega arith))

pub list_listed : (s : List ℕ) (h : Head) (list : Listing) (at : ℕ) → record_list_check s h list at ≡ Ok tt → Listed s h list (at + 2) (two_at s at)
unfolding record_list_check
list_listed s h list at f = records_listed s h list (two_at s at) (at + 2) 0 (both_pass (unless (leb (at + 2) (length s)) (Bytes 0 at)) _ f).1

pub body_listed : (s : List ℕ) (h : Head) (at : ℕ) → body_check s h at ≡ Ok tt
    → Listed s h Arcs (at + 2) (two_at s at) × Listed s h Attachments (list_end s h Arcs at + 2) (two_at s (list_end s h Arcs at))
unfolding body_check
body_listed s h at f =
    let g = both_pass (record_list_check s h Arcs at) _ f in
    (list_listed s h Arcs at g.0, list_listed s h Attachments (list_end s h Arcs at) (both_pass (record_list_check s h Attachments (list_end s h Arcs at)) _ g.1).0)
