-- What the contracts say of an entry's reading pins it: two answers that meet one contract are equal.
use mathlib.Core.Path.{◌≡◌, refl, ap}
use mathlib.Core.Bool.{true, false}
use Rattle.weights.proofs.Ordering.{clash}
use Rattle.modes.proofs.Unique.{entry_one}
use Rattle.tables.specs.Tables.{entry_read_of}
use Rattle.std.specs.Prelude.{Option, Some, None}
use Rattle.modes.specs.declared.Entry as declared

pub entry_read_one : (x y : Option declared.Entry) → entry_read_of x ≡ entry_read_of y → x ≡ y
entry_read_one (Some v) (Some w) p = ap Some (entry_one v w (cc))
entry_read_one (Some v) None p = let z : true ≡ false = cc in clash true refl z
entry_read_one None (Some w) p = let z : true ≡ false = cc in clash true refl z
entry_read_one None None p = refl
