-- The checks of the header: what it says that they pass.
use Prim.Native.Nat.{ℕ, ◌≤◌, ◌<◌}
use mathlib.Core.Path.{◌≡◌}
use mathlib.Core.List.{List}
use mathlib.Core.Bool.{and-eq-true_iff}
use borrow.Author.Tests.{leb-true, ltb-true}
use lib.Dec.{ltb, leb}
use lib.ListN.{length, get_or}
use Rattle.refusals.specs.declared.Refusal.{Refusal}
use Rattle.refusals.specs.declared.Refusal.TheVariants.{Bytes, Version, Size}
use Rattle.refusals.specs.Checks.{unless}
use Rattle.refusals.proofs.First.{unless_passes, both_pass}
use Rattle.fields.specs.Header.{field_check, mode_field_check, fields_check}
use Rattle.std.specs.Prelude.{Ok}

pub field_passes : (s : List ℕ) (at : ℕ) (r : Refusal) (lo hi : ℕ) → field_check s at r lo hi ≡ Ok tt → (at < length s) × (lo ≤ get_or s at 0) × (get_or s at 0 ≤ hi)
unfolding field_check
field_passes s at r lo hi e =
    let f = both_pass (unless (ltb at (length s)) (Bytes 0 at)) _ e in
    let g = (and-eq-true_iff (leb lo (get_or s at 0)) (leb (get_or s at 0) hi)).0 (unless_passes _ r f.1) in
    (ltb-true _ _ (unless_passes _ (Bytes 0 at) f.0), leb-true _ _ g.0, leb-true _ _ g.1)

-- the numbers of a header that passes are small
pub fields_small : (s : List ℕ) → fields_check s ≡ Ok tt → (get_or s 5 0 ≤ 16) × (get_or s 6 0 ≤ 32)
unfolding fields_check
fields_small s e =
    let f = both_pass (field_check s 4 (Version 0 4) 1 1) _ e in
    let g = both_pass (field_check s 5 (Size 0 5) 1 16) _ f.1 in
    let h = both_pass (field_check s 6 (Size 0 6) 0 32) (mode_field_check s) g.1 in
    ((field_passes s 5 (Size 0 5) 1 16 g.0).2, (field_passes s 6 (Size 0 6) 0 32 h.0).2)
