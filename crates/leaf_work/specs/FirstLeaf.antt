-- The first leaf of a tree.
use Rattle.std.specs.Prelude.{◌≡◌, ℕ, ◌+◌, ◌≤◌, [], length, pos, ◌⊎◌}
use Rattle.std.specs.List.{AllByRecursion}
use Rattle.solomon_reader.specs.Problem.{Problem, customer_count}
use Rattle.solomon_reader.specs.Region.{root_region}
use Rattle.solomon_reader.specs.Bound.{ceiling_of}
use Rattle.prices.specs.ValuedPrices.{ValuedPrices, IsValued}

-- prices at the root of an instance, with their value
pub record IsRoot (p : Problem) (k : ℕ) (f : ValuedPrices) : Type 0 where
  pub problem : f.problem ≡ p
  pub region : f.region ≡ root_region (customer_count p)
  pub neighbours : f.neighbours ≡ k
  pub valued : IsValued f

-- the value is above the cost of every plan, by prices of at most so many sets and of no row
pub record IsRefutedRoot (p : Problem) (k sets : ℕ) (f : ValuedPrices) : Type 0 where
  pub root : IsRoot p k f
  pub few : length f.sets ≤ sets
  pub rows : f.rows ≡ []
  pub above : ceiling_of p + 1 ≤ f.value

-- all prices are zero
pub record IsRootAtZero (p : Problem) (k : ℕ) (f : ValuedPrices) : Type 0 where
  pub root : IsRoot p k f
  pub prices : AllByRecursion (λ z. z ≡ pos 0) f.prices
  pub sets : f.sets ≡ []
  pub rows : f.rows ≡ []

-- the value is above the cost of every plan, or at least that of prices of zero
abbrev pub IsNoLower : Problem → ℕ → ℕ → Type 0
IsNoLower p k value = (ceiling_of p + 1 ≤ value) ⊎ ((zero : ValuedPrices) × IsRootAtZero p k zero × (zero.value ≤ value))
