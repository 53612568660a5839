-- What a routing language is made of, and when it is lawful.
-- To be believed: all of it. `Lawful` is what the theorems ask; that a language with D and U has it is `lawful`
-- (weights/proofs/Languages).
use Rattle.std.specs.Prelude.{◌≡◌, Bool, false}
use Rattle.algebra.specs.Order.{Order, Ordered}

-- Weights, the valid ones, "better", join, the unit weight and no route.
pub record Algebra : Type 1 where
  pub Weight : Type 0
  pub Valid : Weight → Type 0
  pub better : Weight → Weight → Bool
  pub join : Weight → Weight → Weight
  pub unit : Weight
  pub none : Weight

-- The weights as an order.
abbrev pub order : Algebra → Order
order 𝓐 = record { Thing = 𝓐.Weight; Valid = 𝓐.Valid; better = 𝓐.better }

module _ (𝓐 : Algebra) where
  open 𝓐 use {Weight, Valid, better, join, unit, none}

  -- A total order, a join with its unit and its no route, and the laws D and U; all of it on valid weights.
  pub record Lawful : Type 0 where
    pub ordered : Ordered (order 𝓐)
    pub unit_valid : Valid unit
    pub none_valid : Valid none
    pub join_valid : (x y : Weight) → Valid x → Valid y → Valid (join x y)
    pub worst : (x : Weight) → Valid x → better none x ≡ false
    pub commutes : (x y : Weight) → Valid x → Valid y → join x y ≡ join y x
    pub associates : (x y z : Weight) → Valid x → Valid y → Valid z → join (join x y) z ≡ join x (join y z)
    pub neutral : (x : Weight) → Valid x → join unit x ≡ x
    pub absorbs : (x : Weight) → Valid x → join x none ≡ none
    pub law_d_holds : (s x y : Weight) → Valid s → Valid x → Valid y → better y x ≡ false → better (join s y) (join s x) ≡ false
    pub law_u_holds : (x : Weight) → Valid x → better x unit ≡ false
