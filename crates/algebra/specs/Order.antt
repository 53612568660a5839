-- Things that are better and worse than one another, and the best of several.
-- To be believed: all of it. Every "best" in this library is `pick` or `best_of`.
use Rattle.std.specs.Prelude.{ℕ, zero, suc, ◌≡◌, Bool, true, false, cond}

-- Things, those that are valid, and the test whether one is better than another.
pub record Order : Type 1 where
  pub Thing : Type 0
  pub Valid : Thing → Type 0
  pub better : Thing → Thing → Bool

module _ (𝓞 : Order) where
  open 𝓞 use {Thing, Valid, better}

  -- The better of two; of two that are equally good, the first.
  unfoldable pub pick : Thing → Thing → Thing
  pick x y = cond (better y x) y x

  -- The best of z and of f 0, f 1, .., f (n - 1).
  unfoldable pub best_of : ℕ → (ℕ → Thing) → Thing → Thing
  best_of zero f z = z
  best_of (suc n) f z = pick (best_of n f z) (f n)

  -- Among valid things "not better" is a total order, and two that are equally good are equal.
  pub record Ordered : Type 0 where
    pub self : (x : Thing) → Valid x → better x x ≡ false
    pub chain : (x y z : Thing) → Valid x → Valid y → Valid z → better y x ≡ false → better z y ≡ false → better z x ≡ false
    pub asym : (x y : Thing) → Valid x → Valid y → better y x ≡ true → better x y ≡ false
    pub antisym : (x y : Thing) → Valid x → Valid y → better y x ≡ false → better x y ≡ false → x ≡ y
