-- The table of a sound list: at a listed pair the entry's words, elsewhere no route (empty).
use Prim.Native.Nat.{ℕ, ◌+◌, ◌*◌, ◌<◌}
use mathlib.Core.Path.{◌≡◌, refl, ap, ◌∙◌}
use mathlib.Core.List.{List, [], ◌∷◌, ◌++◌}
use mathlib.Core.Bool.{Bool, true, false, cond, ◌&&◌, and-eq-true_iff}
use native.Mathlib.Omega.{arith}
use borrow.Author.Tests.{eqb-true, eq-eqb}
use lib.Dec.{eqb}
use Rattle.weights.specs.declared.Component.{Component}
use Rattle.records.specs.declared.Listing.{Listing}
use Rattle.encoded.specs.Encode.{ListEntry, SoundEntries, words_listed, put, Unlisted}

module _ (n columns mode : ℕ) (cs : List Component) (list : Listing) where
  -- what is listed later leaves (i, j) alone
  put_after : (i j low : ℕ) (es : List ListEntry) (ws : List ℕ) → SoundEntries n columns mode cs list low es → i * 256 + j < low → put list i j es ws ≡ ws
  put_after i j low [] ws ok l = refl
  put_after i j low (e ∷ es) ws ok l =
      ap (put list i j es) (go (eqb i e.row && eqb j e.column) refl)
      ∙ put_after i j (e.row * 256 + e.column + 1) es ws ok.1 (omega (arith, l, ok.0.after))
    where
      go : (b : Bool) → (eqb i e.row && eqb j e.column) ≡ b → cond b (words_listed list e) ws ≡ ws
      go false q = refl
      go true q =
          let t = (and-eq-true_iff (eqb i e.row) (eqb j e.column)).0 q in
          absurd (omega (arith, eqb-true i e.row t.0, eqb-true j e.column t.1, l, ok.0.after))

  -- at a listed pair stand the words of its entry
  pub put_listed : (low : ℕ) (xs : List ListEntry) (e : ListEntry) (ys : List ListEntry) (ws : List ℕ) → SoundEntries n columns mode cs list low (xs ++ (e ∷ ys))
      → put list e.row e.column (xs ++ (e ∷ ys)) ws ≡ words_listed list e
  put_listed low [] e ys ws ok =
      ap (put list e.row e.column ys) (own e.row e.column (words_listed list e) ws)
      ∙ put_after e.row e.column (e.row * 256 + e.column + 1) ys (words_listed list e) ok.1 (omega arith)
    where
      own : (i j : ℕ) (x y : List ℕ) → cond (eqb i i && eqb j j) x y ≡ x
      own i j x y = rw (eq-eqb i i refl, eq-eqb j j refl)
  put_listed low (x ∷ xs) e ys ws ok = put_listed (x.row * 256 + x.column + 1) xs e ys _ ok.1

-- what is not listed is as it was: no route, or empty
pub put_unlisted : (list : Listing) (i j : ℕ) (es : List ListEntry) (ws : List ℕ) → Unlisted i j es → put list i j es ws ≡ ws
put_unlisted list i j [] ws u = refl
put_unlisted list i j (e ∷ es) ws u = rw u.0 (put_unlisted list i j es ws u.1)
