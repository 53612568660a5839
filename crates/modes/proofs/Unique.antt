-- What the contracts say of an entry pins it: two answers that meet one contract are equal.
use mathlib.Core.Path.{◌≡◌, refl}
use mathlib.Core.Bool.{true, false}
use Rattle.weights.proofs.Ordering.{clash}
use Rattle.modes.specs.declared.Entry as declared
use Rattle.modes.specs.declared.Entry.TheVariants.{Mapped, Empty}
use Rattle.modes.specs.Entries.{entry_of}

pub entry_one : (x y : declared.Entry) → entry_of x ≡ entry_of y → x ≡ y
entry_one (Mapped a b c d t) (Mapped e f g h u) p = cc
entry_one (Mapped a b c d t) Empty p = let z : true ≡ false = cc in clash true refl z
entry_one Empty (Mapped e f g h u) p = let z : true ≡ false = cc in clash true refl z
entry_one Empty Empty p = refl
