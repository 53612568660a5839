-- Weights of a lawful algebra, no worse than one another: no route, join, and that joining never improves.
use mathlib.Core.Path.{◌∙◌, subst}
use Rattle.algebra.specs.Algebra.{Algebra, order, Lawful}
use Rattle.algebra.proofs.Orders.{NoWorse}

module _ (𝓐 : Algebra) (𝓛 : Lawful 𝓐) where
  open 𝓐 use {Weight, Valid, better, join, unit, none}

  infix 50 ◌≼◌
  abbrev ◌≼◌ : Weight → Weight → Type 0
  ◌≼◌ = NoWorse (order 𝓐)

  pub nw_none : {x : Weight} → Valid x → x ≼ none
  nw_none {x} v = record { left = v; right = 𝓛.none_valid; test = 𝓛.worst x v }

  pub nw_join : {s x y : Weight} → Valid s → x ≼ y → join s x ≼ join s y
  nw_join {s} {x} {y} v p = record { left = 𝓛.join_valid s x v p.left; right = 𝓛.join_valid s y v p.right; test = 𝓛.law_d_holds s x y v p.left p.right p.test }

  -- joining never improves: from U, by D
  pub nw_grows : {s x : Weight} → Valid s → Valid x → x ≼ join s x
  nw_grows {s} {x} vs vx =
      let h : join x unit ≼ join x s = nw_join vx record { left = 𝓛.unit_valid; right = vs; test = 𝓛.law_u_holds s vs } in
      subst (λ (z : Weight). x ≼ z) (𝓛.commutes x s vx vs) (subst (λ (z : Weight). z ≼ join x s) (𝓛.commutes x unit vx 𝓛.unit_valid ∙ 𝓛.neutral x vx) h)
