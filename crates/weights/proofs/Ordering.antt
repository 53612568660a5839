-- The order of weights and their join: what holds in every language.
use Prim.Native.Nat.{ℕ, ◌<◌, min, max}
use mathlib.Core.Path.{◌≡◌, refl, sym, ap, ap₂, ◌∙◌}
use mathlib.Core.Bool.{Bool, true, false}
use mathlib.Core.List.{List, [], ◌∷◌}
use mathlib.Core.Logic.{◌⊎◌, inl, inr}
use native.Mathlib.Decide.{dec_lt}
use native.Mathlib.Omega.{arith}
use borrow.Author.Tests.{lt-ltb, le-ltb, eq-eqb, ne_eqb}
use Rattle.algebra.specs.Order.{pick}
use Rattle.weights.specs.declared.Component.{Component}
use Rattle.weights.specs.declared.Component.TheVariants.{Dist, Width, Class, Gain}
use Rattle.weights.specs.Weights.{Weight, none, route, Valid, ValidValues, ValidValue, Sound, SoundLimit, better, better_values, better_value, join, join_values, join_value, unit, unit_values, unit_value, better_of}

-- x is no worse than y
abbrev pub NoWorse : List Component → Weight → Weight → Type 0
NoWorse cs x y = better cs y x ≡ false

-- ---- one component

-- x stands before y in the component's order, as an order of numbers
abbrev pub Lt1 : Component → ℕ → ℕ → Type 0
Lt1 Dist x y = x < y
Lt1 (Width w) x y = y < x
Lt1 (Class c) x y = x < y
Lt1 Gain x y = y < x

pub data Three (c : Component) (x y : ℕ) : Type 0 where
  ahead : Lt1 c x y → Three c x y
  level : x ≡ y → Three c x y
  behind : Lt1 c y x → Three c x y

data Tri (x y : ℕ) : Type 0 where
  less : x < y → Tri x y
  same : x ≡ y → Tri x y
  more : y < x → Tri x y

tri : (x y : ℕ) → Tri x y
tri x y = go (dec_lt x y) (dec_lt y x)
  where
    go : Dec (x < y) → Dec (y < x) → Tri x y
    go (yes p) q = less p
    go (no p) (yes q) = more q
    go (no p) (no q) = same (omega arith)

pub three1 : (c : Component) (x y : ℕ) → Three c x y
three1 Dist x y = elim (tri x y) [ less p ↦ ahead p | same p ↦ level p | more p ↦ behind p ]
three1 (Width w) x y = elim (tri x y) [ less p ↦ behind p | same p ↦ level p | more p ↦ ahead p ]
three1 (Class k) x y = elim (tri x y) [ less p ↦ ahead p | same p ↦ level p | more p ↦ behind p ]
three1 Gain x y = elim (tri x y) [ less p ↦ behind p | same p ↦ level p | more p ↦ ahead p ]

pub lt_better : (c : Component) (x y : ℕ) → Lt1 c x y → better_value c x y ≡ true
lt_better Dist x y p = lt-ltb x y p
lt_better (Width w) x y p = lt-ltb y x p
lt_better (Class k) x y p = lt-ltb x y p
lt_better Gain x y p = lt-ltb y x p

pub lt_worse : (c : Component) (x y : ℕ) → Lt1 c x y → better_value c y x ≡ false
lt_worse Dist x y p = le-ltb y x (omega arith)
lt_worse (Width w) x y p = le-ltb x y (omega arith)
lt_worse (Class k) x y p = le-ltb y x (omega arith)
lt_worse Gain x y p = le-ltb x y (omega arith)

pub lt_ne : (c : Component) (x y : ℕ) → Lt1 c x y → x ≡ y → ⊥
lt_ne Dist x y p e = omega arith
lt_ne (Width w) x y p e = omega arith
lt_ne (Class k) x y p e = omega arith
lt_ne Gain x y p e = omega arith

pub lt_trans1 : (c : Component) (x y z : ℕ) → Lt1 c x y → Lt1 c y z → Lt1 c x z
lt_trans1 Dist x y z p q = omega arith
lt_trans1 (Width w) x y z p q = omega arith
lt_trans1 (Class k) x y z p q = omega arith
lt_trans1 Gain x y z p q = omega arith

-- join keeps the order of one component, or makes the two equal
pub mono1 : (c : Component) (s x y : ℕ) → Lt1 c x y → Lt1 c (join_value c s x) (join_value c s y) ⊎ (join_value c s x ≡ join_value c s y)
mono1 Dist s x y p = inl (omega arith)
mono1 (Width w) s x y p = elim (dec_lt (min s y) (min s x)) [ yes q ↦ inl q | no q ↦ inr (omega arith) ]
mono1 (Class k) s x y p = elim (dec_lt (max s x) (max s y)) [ yes q ↦ inl q | no q ↦ inr (omega arith) ]
mono1 Gain s x y p = inl (omega arith)

pub assoc1 : (c : Component) (x y z : ℕ) → join_value c (join_value c x y) z ≡ join_value c x (join_value c y z)
assoc1 Dist x y z = omega arith
assoc1 (Width w) x y z = omega arith
assoc1 (Class k) x y z = omega arith
assoc1 Gain x y z = omega arith

pub comm1 : (c : Component) (x y : ℕ) → join_value c x y ≡ join_value c y x
comm1 Dist x y = omega arith
comm1 (Width w) x y = omega arith
comm1 (Class k) x y = omega arith
comm1 Gain x y = omega arith

pub unit_join_value : (c : Component) (x : ℕ) → ValidValue c x → join_value c (unit_value c) x ≡ x
unit_join_value Dist x v = omega arith
unit_join_value (Width w) x v = omega arith
unit_join_value (Class k) x v = omega arith
unit_join_value Gain x v = omega arith

pub join_valid1 : (c : Component) (x y : ℕ) → ValidValue c x → ValidValue c y → ValidValue c (join_value c x y)
join_valid1 Dist x y p q = tt
join_valid1 (Width w) x y p q = omega arith
join_valid1 (Class k) x y p q = omega arith
join_valid1 Gain x y p q = tt

pub unit_valid1 : (c : Component) → SoundLimit c → ValidValue c (unit_value c)
unit_valid1 Dist h = tt
unit_valid1 (Width w) h = omega arith
unit_valid1 (Class k) h = omega arith
unit_valid1 Gain h = tt

-- ---- lists: the head decides

pub head_ahead : (c : Component) (cs : List Component) (x y : ℕ) (xs ys : List ℕ) → Lt1 c x y → better_values (c ∷ cs) (x ∷ xs) (y ∷ ys) ≡ true
head_ahead c cs x y xs ys p = rw (ne_eqb x y (lt_ne c x y p)) (lt_better c x y p)

pub head_behind : (c : Component) (cs : List Component) (x y : ℕ) (xs ys : List ℕ) → Lt1 c x y → better_values (c ∷ cs) (y ∷ ys) (x ∷ xs) ≡ false
head_behind c cs x y xs ys p = rw (ne_eqb y x (λ e. lt_ne c x y p (sym e))) (lt_worse c x y p)

pub head_level : (c : Component) (cs : List Component) (x y : ℕ) (xs ys : List ℕ) → x ≡ y → better_values (c ∷ cs) (x ∷ xs) (y ∷ ys) ≡ better_values cs xs ys
head_level c cs x y xs ys e = rw (eq-eqb x y e)

-- ---- lists

pub data ThreeV (cs : List Component) (xs ys : List ℕ) : Type 0 where
  ahead_v : better_values cs xs ys ≡ true → better_values cs ys xs ≡ false → ThreeV cs xs ys
  level_v : xs ≡ ys → ThreeV cs xs ys
  behind_v : better_values cs ys xs ≡ true → better_values cs xs ys ≡ false → ThreeV cs xs ys

cons_three : (c : Component) (cs : List Component) (x y : ℕ) (xs ys : List ℕ) → Three c x y → ThreeV cs xs ys → ThreeV (c ∷ cs) (x ∷ xs) (y ∷ ys)
cons_three c cs x y xs ys (ahead p) t = ahead_v (head_ahead c cs x y xs ys p) (head_behind c cs x y xs ys p)
cons_three c cs x y xs ys (behind p) t = behind_v (head_ahead c cs y x ys xs p) (head_behind c cs y x ys xs p)
cons_three c cs x y xs ys (level e) (ahead_v p q) = ahead_v (head_level c cs x y xs ys e ∙ p) (head_level c cs y x ys xs (sym e) ∙ q)
cons_three c cs x y xs ys (level e) (behind_v p q) = behind_v (head_level c cs y x ys xs (sym e) ∙ p) (head_level c cs x y xs ys e ∙ q)
cons_three c cs x y xs ys (level e) (level_v p) = level_v (cc)

pub three_v : (cs : List Component) (xs ys : List ℕ) → ValidValues cs xs → ValidValues cs ys → ThreeV cs xs ys
three_v [] [] [] v w = level_v refl
three_v [] [] (y ∷ ys) v w = absurd w
three_v [] (x ∷ xs) ys v w = absurd v
three_v (c ∷ cs) [] ys v w = absurd v
three_v (c ∷ cs) (x ∷ xs) [] v w = absurd w
three_v (c ∷ cs) (x ∷ xs) (y ∷ ys) v w = cons_three c cs x y xs ys (three1 c x y) (three_v cs xs ys v.1 w.1)

pub irrefl_v : (cs : List Component) (xs : List ℕ) → better_values cs xs xs ≡ false
irrefl_v [] xs = refl
irrefl_v (c ∷ cs) [] = refl
irrefl_v (c ∷ cs) (x ∷ xs) = head_level c cs x x xs xs refl ∙ irrefl_v cs xs

-- a list is better exactly where its head is, or the heads are equal and the rest is better
data Ahead (c : Component) (cs : List Component) (x y : ℕ) (xs ys : List ℕ) : Type 0 where
  by_head : Lt1 c x y → Ahead c cs x y xs ys
  by_rest : x ≡ y → better_values cs xs ys ≡ true → Ahead c cs x y xs ys

pub clash : {A : Type 0} (b : Bool) → b ≡ true → b ≡ false → A
clash true p q = absurd (let z : ◌≡◌ {A = ℕ} 0 1 = cc in omega arith)
clash false p q = absurd (let z : ◌≡◌ {A = ℕ} 0 1 = cc in omega arith)

ahead_view : (c : Component) (cs : List Component) (x y : ℕ) (xs ys : List ℕ) → better_values (c ∷ cs) (x ∷ xs) (y ∷ ys) ≡ true → Ahead c cs x y xs ys
ahead_view c cs x y xs ys p = go (three1 c x y)
  where
    go : Three c x y → Ahead c cs x y xs ys
    go (ahead q) = by_head q
    go (level e) = by_rest e (sym (head_level c cs x y xs ys e) ∙ p)
    go (behind q) = clash (better_values (c ∷ cs) (x ∷ xs) (y ∷ ys)) p (head_behind c cs y x ys xs q)

trans_cons : (c : Component) (cs : List Component) (x y z : ℕ) (xs ys zs : List ℕ) → Ahead c cs x y xs ys → Ahead c cs y z ys zs
    → (better_values cs xs ys ≡ true → better_values cs ys zs ≡ true → better_values cs xs zs ≡ true) → better_values (c ∷ cs) (x ∷ xs) (z ∷ zs) ≡ true
trans_cons c cs x y z xs ys zs (by_head p) (by_head q) ih = head_ahead c cs x z xs zs (lt_trans1 c x y z p q)
trans_cons c cs x y z xs ys zs (by_head p) (by_rest e q) ih = head_ahead c cs x z xs zs (rw e at p)
trans_cons c cs x y z xs ys zs (by_rest e p) (by_head q) ih = head_ahead c cs x z xs zs (rw e q)
trans_cons c cs x y z xs ys zs (by_rest e p) (by_rest f q) ih = head_level c cs x z xs zs (e ∙ f) ∙ ih p q

pub trans_v : (cs : List Component) (xs ys zs : List ℕ) → better_values cs xs ys ≡ true → better_values cs ys zs ≡ true → better_values cs xs zs ≡ true
trans_v [] xs ys zs p q = p
trans_v (c ∷ cs) [] ys zs p q = p
trans_v (c ∷ cs) (x ∷ xs) [] zs p q = clash false p refl
trans_v (c ∷ cs) (x ∷ xs) (y ∷ ys) [] p q = q
trans_v (c ∷ cs) (x ∷ xs) (y ∷ ys) (z ∷ zs) p q =
    trans_cons c cs x y z xs ys zs (ahead_view c cs x y xs ys p) (ahead_view c cs y z ys zs q) (trans_v cs xs ys zs)

pub assoc_v : (cs : List Component) (xs ys zs : List ℕ) → join_values cs (join_values cs xs ys) zs ≡ join_values cs xs (join_values cs ys zs)
assoc_v [] xs ys zs = refl
assoc_v (c ∷ cs) [] ys zs = refl
assoc_v (c ∷ cs) (x ∷ xs) [] zs = refl
assoc_v (c ∷ cs) (x ∷ xs) (y ∷ ys) [] = refl
assoc_v (c ∷ cs) (x ∷ xs) (y ∷ ys) (z ∷ zs) = ap₂ ◌∷◌ (assoc1 c x y z) (assoc_v cs xs ys zs)

pub comm_v : (cs : List Component) (xs ys : List ℕ) → join_values cs xs ys ≡ join_values cs ys xs
comm_v [] xs ys = refl
comm_v (c ∷ cs) [] [] = refl
comm_v (c ∷ cs) [] (y ∷ ys) = refl
comm_v (c ∷ cs) (x ∷ xs) [] = refl
comm_v (c ∷ cs) (x ∷ xs) (y ∷ ys) = ap₂ ◌∷◌ (comm1 c x y) (comm_v cs xs ys)

pub unit_join_values : (cs : List Component) (xs : List ℕ) → ValidValues cs xs → join_values cs (unit_values cs) xs ≡ xs
unit_join_values [] [] v = refl
unit_join_values [] (x ∷ xs) v = absurd v
unit_join_values (c ∷ cs) [] v = absurd v
unit_join_values (c ∷ cs) (x ∷ xs) v = ap₂ ◌∷◌ (unit_join_value c x v.0) (unit_join_values cs xs v.1)

pub join_valid_v : (cs : List Component) (xs ys : List ℕ) → ValidValues cs xs → ValidValues cs ys → ValidValues cs (join_values cs xs ys)
join_valid_v [] [] ys v w = tt
join_valid_v [] (x ∷ xs) ys v w = absurd v
join_valid_v (c ∷ cs) [] ys v w = absurd v
join_valid_v (c ∷ cs) (x ∷ xs) [] v w = absurd w
join_valid_v (c ∷ cs) (x ∷ xs) (y ∷ ys) v w = (join_valid1 c x y v.0 w.0, join_valid_v cs xs ys v.1 w.1)

pub unit_valid_v : (cs : List Component) → Sound cs → ValidValues cs (unit_values cs)
unit_valid_v [] h = tt
unit_valid_v (c ∷ cs) h = (unit_valid1 c h.0, unit_valid_v cs h.1)

-- ---- weights: the order is total, antisymmetric and transitive

pub data ThreeW (cs : List Component) (x y : Weight) : Type 0 where
  before : better cs x y ≡ true → better cs y x ≡ false → ThreeW cs x y
  equal : x ≡ y → ThreeW cs x y
  after : better cs y x ≡ true → better cs x y ≡ false → ThreeW cs x y

lift_three : (cs : List Component) (xs ys : List ℕ) → ThreeV cs xs ys → ThreeW cs (route xs) (route ys)
lift_three cs xs ys (ahead_v p q) = before p q
lift_three cs xs ys (level_v e) = equal (ap route e)
lift_three cs xs ys (behind_v p q) = after p q

pub total : (cs : List Component) (x y : Weight) → Valid cs x → Valid cs y → ThreeW cs x y
total cs none none v w = equal refl
total cs none (route ys) v w = after refl refl
total cs (route xs) none v w = before refl refl
total cs (route xs) (route ys) v w = lift_three cs xs ys (three_v cs xs ys v w)

pub irrefl : (cs : List Component) (x : Weight) → better cs x x ≡ false
irrefl cs none = refl
irrefl cs (route xs) = irrefl_v cs xs

pub better_trans : (cs : List Component) (x y z : Weight) → better cs x y ≡ true → better cs y z ≡ true → better cs x z ≡ true
better_trans cs none y z p q = p
better_trans cs (route xs) none z p q = clash false q refl
better_trans cs (route xs) (route ys) none p q = refl
better_trans cs (route xs) (route ys) (route zs) p q = trans_v cs xs ys zs p q

pub asym : (cs : List Component) (x y : Weight) → better cs x y ≡ true → better cs y x ≡ false
asym cs x y p = go (better cs y x) refl
  where
    go : (b : Bool) → better cs y x ≡ b → b ≡ false
    go false e = refl
    go true e = clash (better cs x x) (better_trans cs x y x p e) (irrefl cs x)

pub antisym : (cs : List Component) (x y : Weight) → Valid cs x → Valid cs y → NoWorse cs x y → NoWorse cs y x → x ≡ y
antisym cs x y v w p q = go (total cs x y v w)
  where
    go : ThreeW cs x y → x ≡ y
    go (before a b) = clash (better cs x y) a q
    go (equal e) = e
    go (after a b) = clash (better cs y x) a p

pub no_worse_trans : (cs : List Component) (x y z : Weight) → Valid cs x → Valid cs y → Valid cs z → NoWorse cs x y → NoWorse cs y z → NoWorse cs x z
no_worse_trans cs x y z vx vy vz p q = go (total cs x y vx vy) (total cs y z vy vz)
  where
    go : ThreeW cs x y → ThreeW cs y z → NoWorse cs x z
    go (equal e) t = rw e q
    go (after a b) t = clash (better cs y x) a p
    go (before a b) (equal e) = rw (← e) p
    go (before a b) (after c d) = clash (better cs z y) c q
    go (before a b) (before c d) = asym cs x z (better_trans cs x y z a c)

-- ---- weights: join

pub join_assoc : (cs : List Component) (x y z : Weight) → join cs (join cs x y) z ≡ join cs x (join cs y z)
join_assoc cs none y z = refl
join_assoc cs (route xs) none z = refl
join_assoc cs (route xs) (route ys) none = refl
join_assoc cs (route xs) (route ys) (route zs) = ap route (assoc_v cs xs ys zs)

pub join_comm : (cs : List Component) (x y : Weight) → join cs x y ≡ join cs y x
join_comm cs none none = refl
join_comm cs none (route ys) = refl
join_comm cs (route xs) none = refl
join_comm cs (route xs) (route ys) = ap route (comm_v cs xs ys)

pub join_unit : (cs : List Component) (x : Weight) → Valid cs x → join cs (unit cs) x ≡ x
join_unit cs none v = refl
join_unit cs (route xs) v = ap route (unit_join_values cs xs v)

pub join_valid : (cs : List Component) (x y : Weight) → Valid cs x → Valid cs y → Valid cs (join cs x y)
join_valid cs none y v w = tt
join_valid cs (route xs) none v w = tt
join_valid cs (route xs) (route ys) v w = join_valid_v cs xs ys v w

pub unit_valid : (cs : List Component) → Sound cs → Valid cs (unit cs)
unit_valid cs h = unit_valid_v cs h

-- ---- the better of two

pub better_of_first : (cs : List Component) (x y : Weight) → NoWorse cs x y → better_of cs x y ≡ x
unfolding pick
better_of_first cs x y p = rw p

pub better_of_second : (cs : List Component) (x y : Weight) → better cs y x ≡ true → better_of cs x y ≡ y
unfolding pick
better_of_second cs x y p = rw p
