-- How the code finds a witness: a flag for each place, and words laid over others at the first flag.
-- They join the code to Report; nothing here has to be believed.
use Rattle.std.specs.Prelude.{ℕ, Bool, false, cond, ◌&&◌, ◌||◌, List, [], ◌∷◌}

-- some flag is set
abbrev pub some_flag : List Bool → Bool
some_flag [] = false
some_flag (b ∷ bs) = b || some_flag bs

-- us, but v at the first flag
abbrev pub over_at : List Bool → List ℕ → List ℕ → List ℕ
over_at [] vs us = us
over_at (b ∷ bs) [] us = us
over_at (b ∷ bs) (v ∷ vs) [] = []
over_at (b ∷ bs) (v ∷ vs) (u ∷ us) = cond b (v ∷ us) (u ∷ over_at bs vs us)

-- a flag of ls, with a later flag in fs
abbrev pub before_flag : List Bool → List Bool → List Bool
before_flag [] fs = []
before_flag (l ∷ ls) [] = []
before_flag (l ∷ ls) (f ∷ fs) = (l && some_flag fs) ∷ before_flag ls fs

-- the flags of fs after the first of bs
abbrev pub after_flag : List Bool → List Bool → List Bool
after_flag [] fs = []
after_flag (b ∷ bs) [] = []
after_flag (b ∷ bs) (f ∷ fs) = false ∷ cond b fs (after_flag bs fs)
