-- An equation pins what it is about: two results, or two contents of a buffer, that meet one equation are equal.
use mathlib.Core.Path.{◌≡◌, sym, ◌∙◌}

pub equation_pins : {X : Type 0} {x y z : X} → x ≡ z → y ≡ z → x ≡ y
equation_pins p q = p ∙ sym q
