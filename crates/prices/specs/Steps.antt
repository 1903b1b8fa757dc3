-- Steps of the prices: the price of a customer that the route visits too often falls, that of one that it leaves out rises.
use Rattle.std.specs.Prelude.{◌≡◌, ℕ, ◌<◌, ◌≤◌, List, [], ◌∷◌, ◌++◌, map, ℤ, pos, ◌+ℤ◌, ◌-ℤ◌, ◌*ℤ◌, ◌≤ℤ◌, ◌⊎◌}
use Rattle.std.specs.Int.{int_min, int_max}
use Rattle.std.specs.List.{AllByRecursion}
use Rattle.solomon_reader.specs.Problem.{customers}
use Rattle.solomon_reader.specs.Plan.{count_of}
use Rattle.solomon_reader.specs.Relaxed.{IsRelaxed, price_of}
use Rattle.solomon_reader.specs.PricedLeaf.{IsLeastAt}
use Rattle.solomon_reader.specs.PricedLeaf as leaf
use Rattle.solomon_reader.specs.declared.limits.TheConstants.{MOST_PRICE}
use Rattle.prices.specs.ValuedPrices.{ValuedPrices, IsValued, leaf_of}

-- the number of the range of prices that is nearest to z
abbrev pub cut : ℤ → ℤ
cut z = int_max (pos 0 -ℤ pos MOST_PRICE) (int_min (pos MOST_PRICE) z)

-- a price after a step of s grains, where the customer stands in the route so often
abbrev pub price_after : ℤ → ℕ → ℤ → ℤ
price_after s count price = cut (price +ℤ (s *ℤ (pos 1 -ℤ pos count)))

-- the reduced cost of a route at prices
abbrev pub reduced_cost_at : ValuedPrices → List ℕ → ℤ
reduced_cost_at f r = leaf.reduced_cost_at f.problem f.neighbours (leaf_of f) r

-- The route that a step goes by: one of the least reduced cost where that is below 0, else the empty one.
abbrev pub IsGuide : ValuedPrices → List ℕ → Type 0
IsGuide f r =
    (IsRelaxed f.problem f.region f.neighbours r × IsLeastAt f.problem f.region f.neighbours (leaf_of f) (reduced_cost_at f r)
    × ((reduced_cost_at f r +ℤ pos 1) ≤ℤ pos 0))
    ⊎ ((r ≡ []) × ((q : List ℕ) → IsRelaxed f.problem f.region f.neighbours q → pos 0 ≤ℤ reduced_cost_at f q))

-- the prices of customers after one step
abbrev pub IsStepped : ValuedPrices → ℤ → List ℤ → Type 0
IsStepped f s new =
    (r : List ℕ) × IsGuide f r × (new ≡ map (λ i. price_after s (count_of i r) (price_of f.prices i)) (customers f.problem))

-- the prices after one step, with the value that they give, at the same region of the same instance; no set and no row has a price any more
pub record IsNext (old : ValuedPrices) (s : ℤ) (new : ValuedPrices) : Type 0 where
  pub problem : new.problem ≡ old.problem
  pub region : new.region ≡ old.region
  pub neighbours : new.neighbours ≡ old.neighbours
  pub stepped : IsStepped old s new.prices
  pub sets : new.sets ≡ []
  pub rows : new.rows ≡ []
  pub valued : IsValued new

-- the prices met on the way, one for each step, each from those that the step before left
abbrev pub AreNext : ValuedPrices → List ℤ → List ValuedPrices → Type 0
AreNext old [] [] = Unit {0}
AreNext old [] (f ∷ met) = ⊥
AreNext old (s ∷ steps) [] = ⊥
AreNext old (s ∷ steps) (f ∷ met) = IsNext old s f × AreNext f steps met

-- At the same region of the same instance: of the old prices and those that the first steps met, the first that have the greatest value.
pub record Improves (old : ValuedPrices) (steps : List ℤ) (new : ValuedPrices) : Type 0 where
  pub problem : new.problem ≡ old.problem
  pub region : new.region ≡ old.region
  pub neighbours : new.neighbours ≡ old.neighbours
  pub not_lower : old.value ≤ new.value
  pub front : List ℤ
  pub back : List ℤ
  pub first_steps : steps ≡ front ++ back
  pub met : List ValuedPrices
  pub are_next : AreNext old front met
  pub before : List ValuedPrices
  pub after : List ValuedPrices
  pub among : old ∷ met ≡ before ++ (new ∷ after)
  pub lower : AllByRecursion (λ f. f.value < new.value) before
  pub not_higher : AllByRecursion (λ f. f.value ≤ new.value) after
