-- What the inner functions say and rely on, on the way to Nested and Header: how far a reading has come, and how large the numbers
-- of a head are. They join the code to those; nothing here has to be believed.
use Rattle.std.specs.Prelude.{ℕ, ◌+◌, ◌*◌, ◌≤◌, ◌<◌, ◌≡◌, List, length, Result, Ok, Err}
use Rattle.weights.specs.Sizes.{places, product_tags}
use Rattle.fields.specs.declared.Found.{Found}
use Rattle.fields.specs.declared.Head.{Head}
use Rattle.fields.specs.declared.Taken.{Taken}
use Rattle.fields.specs.declared.SoundHead.{SoundHead}
use Rattle.refusals.specs.declared.Refusal.{Refusal}

-- ---- the language

-- a language begins: at most three tags 5, no more components than tags, and an offset that these bound
pub record LanguageBegins (at : ℕ) (f : Found) : Type 0 where
  pub near : at ≤ 8 + f.tags + f.language.count * 3
  pub few : f.tags ≤ product_tags
  pub fewer : f.language.count ≤ f.tags

-- what has been read lies after the place where it began and within the file, and holds one component more than tags
pub record Onward (s : List ℕ) (at : ℕ) (f : Found) (next : ℕ) (g : Found) : Type 0 where
  pub onward : at < next
  pub inside : next ≤ length s
  pub grown : f.tags ≤ g.tags
  pub few : g.tags ≤ product_tags
  pub counted : g.language.count + f.tags ≡ f.language.count + 1 + g.tags
  pub near : next + f.tags + f.language.count * 3 ≤ at + g.tags + g.language.count * 3

-- a reading that takes a language advances
abbrev pub Advances : List ℕ → ℕ → Found → Result Taken Refusal → Type 0
Advances s at f (Ok t) = Onward s at f t.next t.found
Advances s at f (Err r) = Unit {0}

-- ---- the head

-- the numbers of a head fit their buffers
pub record SmallHead (h : Head) : Type 0 where
  pub nodes : h.n ≤ 16
  pub destinations : h.m ≤ 32
  pub components : h.language.count ≤ places

-- the arcs begin within the file, at most 23 bytes from its start
abbrev pub SmallHeadRead : List ℕ → Result SoundHead Refusal → Type 0
SmallHeadRead s (Ok t) = SmallHead t.head × (t.next ≤ length s) × (t.next ≤ 23)
SmallHeadRead s (Err r) = Unit {0}
