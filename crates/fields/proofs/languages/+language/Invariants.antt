use Prim.Native.Nat.{◌-◌}
use lib.ListN.{length}
use Rattle.fields.proofs.languages.+language.Given as goal

abbrev pub decreases-language : goal.decreases-language
decreases-language l = length l.file.now - l.at
