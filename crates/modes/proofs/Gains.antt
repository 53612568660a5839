-- An entry that wins before the join is made stays.
use mathlib.Core.Path.{◌≡◌, refl}
use mathlib.Core.Bool.{true, false}
use mathlib.Core.List.{List}
use native.Mathlib.Omega.{arith}
use lib.Dec.{ltb}
use borrow.Author.Tests.{le-ltb, ltb-true}
use Rattle.algebra.specs.Order.{pick}
use Rattle.weights.specs.declared.Component.{Component}
use Rattle.weights.specs.Weights.{Weight, none, route}
use Rattle.weights.proofs.Ordering.{clash}
use Rattle.weights.proofs.Gains.{no_gain, is_lost}
use Rattle.modes.specs.declared.Mode.{Mode}
use Rattle.modes.specs.declared.Mode.TheVariants.{Plain, Hot, Cold}
use Rattle.modes.specs.Entries.{Entry, empty, mapped, comparing, better_entry, applied, mode_of}
use Rattle.modes.specs.Gains.{loses_entry}

-- what is applied is not better
no_entry_gain : (mode : Mode) (cs : List Component) (e : Entry) (x : Weight) (f : Entry) → loses_entry mode cs e x f ≡ true → better_entry (comparing mode cs) (applied cs x f) e ≡ false
no_entry_gain mode cs e x empty h = refl
no_entry_gain mode cs e none (mapped ys u) h = refl
no_entry_gain Plain cs empty (route xs) (mapped ys u) h = clash false h refl
no_entry_gain Hot cs empty (route xs) (mapped ys u) h = clash false h refl
no_entry_gain Cold cs empty (route xs) (mapped ys u) h = clash false h refl
no_entry_gain Plain cs (mapped ws t) (route xs) (mapped ys u) h = no_gain cs (route ws) (route xs) (route ys) h
no_entry_gain Hot cs (mapped ws t) (route xs) (mapped ys u) h = rw (no_gain cs (route ws) (route xs) (route ys) h, is_lost cs (route ws) (route xs) (route ys) h)
no_entry_gain Cold cs (mapped ws t) (route xs) (mapped ys u) h =
    let l = ltb-true t u h in
    let g : ltb u t ≡ false = le-ltb u t (omega arith) in
    rw (g, h)

-- the entry stays
pub loses_keeps : (mode : Mode) (cs : List Component) (e : Entry) (x : Weight) (f : Entry) → loses_entry mode cs e x f ≡ true → e ≡ pick (mode_of mode cs).entries e (applied cs x f)
unfolding pick
loses_keeps mode cs e x f h = rw (no_entry_gain mode cs e x f h)
