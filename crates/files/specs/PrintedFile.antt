-- 01's input in "The printed case", by its bytes, and the head that it has.
-- To be believed: all of it, beside 01's own line.
use Rattle.std.specs.Prelude.{ℕ, List, [], ◌∷◌}
use Rattle.weights.specs.declared.Component.TheVariants.{Dist}
use Rattle.fields.specs.declared.Head.{Head}

-- 00000021 01030103 01 0003 00010002 00020009 01020003 0002 010000000007 020000000004, with a mode byte of its own
abbrev pub printed_file : ℕ → List ℕ
printed_file mode =
    0 ∷ 0 ∷ 0 ∷ 33 ∷ 1 ∷ 3 ∷ 1 ∷ mode ∷ 1 ∷ 0 ∷ 3
    ∷ 0 ∷ 1 ∷ 0 ∷ 2 ∷ 0 ∷ 2 ∷ 0 ∷ 9 ∷ 1 ∷ 2 ∷ 0 ∷ 3
    ∷ 0 ∷ 2 ∷ 1 ∷ 0 ∷ 0 ∷ 0 ∷ 0 ∷ 7 ∷ 2 ∷ 0 ∷ 0 ∷ 0 ∷ 0 ∷ 4 ∷ []

-- dist alone, three nodes, one destination
abbrev pub printed_head : ℕ → Head
printed_head mode = record { n = 3; m = 1; mode = mode; language = record { count = 1; first = Dist; second = Dist; third = Dist; fourth = Dist } }
