-- The file of a sound problem is a file: every element of it is a byte.
use Prim.Native.Nat.{ℕ, zero, suc, ◌+◌, ◌*◌, ◌/◌, ◌%◌, ◌≤◌}
use mathlib.Core.Path.{◌≡◌, refl, ap}
use mathlib.Core.Bool.{Bool, true, false, cond, and-eq-true_iff}
use mathlib.Core.List.{List, [], ◌∷◌, ◌++◌}
use native.Mathlib.Omega.{arith}
use borrow.Author.Tests.{leb-true}
use lib.Dec.{ltb, leb}
use lib.ListN.{length, length-append}
use Rattle.weights.specs.declared.Component.{Component}
use Rattle.weights.specs.declared.Component.TheVariants.{Dist, Width, Class, Gain}
use Rattle.weights.specs.Sizes.{places, arc_sum}
use Rattle.weights.specs.Languages.{SmallLimit, SmallLimits}
use Rattle.weights.specs.Values.{AllAtMost}
use Rattle.weights.specs.Words.{in_range}
use Rattle.records.specs.declared.Listing.{Listing}
use Rattle.records.specs.declared.Listing.TheVariants.{Arcs, Attachments}
use Rattle.encoded.specs.Encode.{ListEntry, Problem, SoundValues, SoundOutside, no_outside, SoundEntries, SoundProblem, Nesting, one, product, nested, bytes2, bytes4, component_bytes, language_bytes, value_bytes, outside_bytes, entry_bytes, entries_bytes, list_bytes, body_bytes, encode}
use Rattle.encoded.specs.Taken.{AreBytes}
use Rattle.encoded.proofs.Entries.{length_values, sound_length}

abbrev All : List ℕ → Type 0
All s = AllAtMost 255 s

all_both : (xs ys : List ℕ) → All xs → All ys → All (xs ++ ys)
all_both [] ys x y = y
all_both (v ∷ xs) ys x y = (x.0, all_both xs ys x.1 y)

all_at : (s : List ℕ) → All s → AreBytes s
all_at [] a i = omega arith
all_at (x ∷ s) a zero = a.0
all_at (x ∷ s) a (suc i) = all_at s a.1 i

two_bytes : (v : ℕ) → v ≤ 65535 → All (bytes2 v)
unfolding bytes2
two_bytes v h = (omega arith, (omega arith, tt))

-- ---- the language

component_bytes_lem : (c : Component) → SmallLimit 65535 c → All (component_bytes c)
component_bytes_lem Dist h = (omega arith, tt)
component_bytes_lem (Width w) h = (omega arith, two_bytes w h)
component_bytes_lem (Class k) h = (omega arith, two_bytes k h)
component_bytes_lem Gain h = (omega arith, tt)

small_parts : (xs ys : List Component) → SmallLimits 65535 (xs ++ ys) → SmallLimits 65535 xs × SmallLimits 65535 ys
small_parts [] ys h = (tt, h)
small_parts (x ∷ xs) ys h = let r = small_parts xs ys h.1 in ((h.0, r.0), r.1)

language_bytes_lem : (t : Nesting) → SmallLimits 65535 (nested t) → All (language_bytes t)
language_bytes_lem (one c) h = component_bytes_lem c h.0
language_bytes_lem (product x y) h =
    let r = small_parts (nested x) (nested y) h in
    (omega arith, all_both (language_bytes x) (language_bytes y) (language_bytes_lem x r.0) (language_bytes_lem y r.1))

component_length : (c : Component) → length (component_bytes c) ≤ 3
unfolding bytes2
component_length Dist = omega arith
component_length (Width w) = omega arith
component_length (Class k) = omega arith
component_length Gain = omega arith

language_length : (t : Nesting) → length (language_bytes t) + 1 ≤ length (nested t) * 4
language_length (one c) = omega (arith, component_length c)
language_length (product x y) =
    omega (arith, length-append (language_bytes x) (language_bytes y), length-append (nested x) (nested y), language_length x, language_length y)

-- ---- entries

value_small : (c : Component) (v : ℕ) → SmallLimit 65535 c → in_range arc_sum c v ≡ true → v ≤ 65535
value_small Dist v h e = leb-true v arc_sum e
value_small (Width w) v h e = omega (arith, h, leb-true v w ((and-eq-true_iff (leb 1 v) (leb v w)).0 e).1)
value_small (Class k) v h e = omega (arith, h, leb-true v k e)
value_small Gain v h e = leb-true v arc_sum e

value_bytes_lem : (cs : List Component) (vs : List ℕ) → SmallLimits 65535 cs → SoundValues cs vs → All (value_bytes vs)
value_bytes_lem [] [] h s = tt
value_bytes_lem [] (v ∷ vs) h s = absurd s
value_bytes_lem (c ∷ cs) [] h s = absurd s
value_bytes_lem (c ∷ cs) (v ∷ vs) h s = all_both (bytes2 v) (value_bytes vs) (two_bytes v (value_small c v h.0 s.0)) (value_bytes_lem cs vs h.1 s.1)

outside_bytes_lem : (list : Listing) (mode t : ℕ) → SoundOutside (no_outside list mode) t → All (outside_bytes list mode t)
outside_bytes_lem Arcs mode t h = tt
outside_bytes_lem Attachments mode t h = go (ltb mode 2) h
  where
    go : (b : Bool) → SoundOutside b t → All (cond b [] (bytes2 t))
    go true h = tt
    go false h = two_bytes t h

outside_length_lem : (list : Listing) (mode t : ℕ) → length (outside_bytes list mode t) ≤ 2
unfolding bytes2
outside_length_lem Arcs mode t = omega arith
outside_length_lem Attachments mode t = go (ltb mode 2)
  where
    go : (b : Bool) → length (cond b [] (bytes2 t)) ≤ 2
    go true = omega arith
    go false = omega arith

module _ (n columns mode : ℕ) (cs : List Component) (list : Listing) (hn : n ≤ 16) (hc : columns ≤ 32) (few : length cs ≤ places) (small : SmallLimits 65535 cs) where
  entries_bytes_lem : (low : ℕ) (es : List ListEntry) → SoundEntries n columns mode cs list low es → All (entries_bytes list mode es)
  entries_bytes_lem low [] ok = tt
  entries_bytes_lem low (e ∷ es) ok =
      all_both (entry_bytes list mode e) (entries_bytes list mode es) (
        omega (arith, ok.0.row_in),
        (
          omega (arith, ok.0.column_in),
          all_both (value_bytes e.values) (outside_bytes list mode e.outside) (value_bytes_lem cs e.values small ok.0.sound) (outside_bytes_lem list mode e.outside ok.0.out),
        ),
      )
      (entries_bytes_lem (e.row * 256 + e.column + 1) es ok.1)

  entries_length : (low : ℕ) (es : List ListEntry) → SoundEntries n columns mode cs list low es → length (entries_bytes list mode es) ≤ length es * 12
  entries_length low [] ok = omega arith
  entries_length low (e ∷ es) ok =
      omega (
        arith,
        length-append (entry_bytes list mode e) (entries_bytes list mode es),
        length-append (value_bytes e.values) (outside_bytes list mode e.outside),
        length_values e.values,
        sound_length cs e.values ok.0.sound,
        outside_length_lem list mode e.outside,
        entries_length (e.row * 256 + e.column + 1) es ok.1,
      )

  -- entries that ascend are few
  entries_few : (low : ℕ) (es : List ListEntry) → low ≤ 4096 → SoundEntries n columns mode cs list low es → length es + low ≤ 4096
  entries_few low [] h ok = omega arith
  entries_few low (e ∷ es) h ok =
      let k : e.row * 256 + e.column + 1 ≤ 4096 = omega (arith, ok.0.row_in, ok.0.column_in) in
      omega (arith, ok.0.after, entries_few (e.row * 256 + e.column + 1) es k ok.1)

  list_bytes_lem : (es : List ListEntry) → SoundEntries n columns mode cs list 0 es → All (list_bytes list mode es) × (length (list_bytes list mode es) ≤ 50000)
  unfolding bytes2
  list_bytes_lem es ok =
      let k = entries_few 0 es (omega arith) ok in
      (all_both (bytes2 (length es)) (entries_bytes list mode es) (two_bytes (length es) (omega arith)) (entries_bytes_lem 0 es ok), omega (arith, entries_length 0 es ok))

pub encode_bytes : (p : Problem) → SoundProblem p → (t : Nesting) → nested t ≡ p.language → AreBytes (encode p t)
unfolding encode
encode_bytes p ok t nests =
    let few = ok.components.1 in
    let a = list_bytes_lem p.n p.n p.mode p.language Arcs ok.nodes.1 (omega (arith, ok.nodes.1)) few ok.small p.arcs ok.arcs_sound in
    let b = list_bytes_lem p.n p.m p.mode p.language Attachments ok.nodes.1 ok.destinations few ok.small p.attachments ok.attachments_sound in
    let lists : List ℕ = list_bytes Arcs p.mode p.arcs ++ list_bytes Attachments p.mode p.attachments in
    let long : length (body_bytes p t) ≤ 200000 =
    omega (
      arith,
      length-append (language_bytes t) (list_bytes Arcs p.mode p.arcs ++ list_bytes Attachments p.mode p.attachments),
      length-append (list_bytes Arcs p.mode p.arcs) (list_bytes Attachments p.mode p.attachments),
      a.1,
      b.1,
      language_length t,
      ap length nests,
      few,
    ) in
    all_at (bytes4 (length (body_bytes p t)) ++ body_bytes p t)
    (all_both (bytes4 (length (body_bytes p t))) (body_bytes p t)
    (all_both (bytes2 (length (body_bytes p t) / 65536)) (bytes2 (length (body_bytes p t) % 65536)) (two_bytes _ (omega arith)) (two_bytes _ (omega arith))) (
      omega arith,
      (
        omega (arith, ok.nodes.1),
        (
          omega (arith, ok.destinations),
          (
            mode_small p.m p.mode ok.no_mode ok.some_mode,
            all_both (language_bytes t) (list_bytes Arcs p.mode p.arcs ++ list_bytes Attachments p.mode p.attachments)
                (language_bytes_lem t (rw nests ok.small))
                (all_both (list_bytes Arcs p.mode p.arcs) (list_bytes Attachments p.mode p.attachments) a.0 b.0),
          ),
        ),
      ),
    ))
  where
    mode_small : (m mode : ℕ) → (m ≡ 0 → mode ≡ 0) → ((m ≡ 0 → ⊥) → (1 ≤ mode) × (mode ≤ 3)) → mode ≤ 255
    mode_small zero mode f g = omega (arith, f refl)
    mode_small (suc m) mode f g = omega (arith, (g (λ e. omega (arith, e))).1)
