-- Regions that allow no other arcs than another one, and what stays there.
use Rattle.std.specs.Prelude.{◌≡◌, MatchOption}
use Rattle.std.specs.List.{AllByRecursion}
use Rattle.solomon_reader.specs.Plan.{Arc, arcs}
use Rattle.solomon_reader.specs.Region.{Region, IsAllowed}
use Rattle.labelling.specs.declared.least_cost.Least.{Least}
use Rattle.prices.specs.ValuedPrices.{ValuedPrices}

-- each arc that the region g allows is allowed in the region h
pub record IsNarrower (g h : Region) : Type 0 where
  pub size : g.size ≡ h.size
  pub allowed : (a : Arc) → IsAllowed g a → IsAllowed h a

-- the region allows the route of a least reduced cost, or there is no such route
abbrev pub StaysLeast : Region → Least → Type 0
StaysLeast g l = MatchOption l.value (Unit {0}) (λ m. AllByRecursion (IsAllowed g) (arcs l.route.items))

-- prices of the same instance and neighbours at this region
pub record IsPricedAt (g : Region) (leaf child : ValuedPrices) : Type 0 where
  pub problem : child.problem ≡ leaf.problem
  pub region : child.region ≡ g
  pub neighbours : child.neighbours ≡ leaf.neighbours

-- the same prices with the same value, at another region
pub record IsSameAt (g : Region) (old new : ValuedPrices) : Type 0 where
  pub problem : new.problem ≡ old.problem
  pub region : new.region ≡ g
  pub neighbours : new.neighbours ≡ old.neighbours
  pub prices : new.prices ≡ old.prices
  pub sets : new.sets ≡ old.sets
  pub rows : new.rows ≡ old.rows
  pub value : new.value ≡ old.value
