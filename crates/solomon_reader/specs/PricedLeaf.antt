-- What a leaf has prices for: customers, sets of customers that routes enter, and rows that charge them.
use Rattle.std.specs.Prelude.{◌≡◌, ℕ, List, [], ℤ, pos, ◌+ℤ◌, ◌-ℤ◌, ◌≤ℤ◌, ◌⊎◌}
use Rattle.solomon_reader.specs.Problem.{Problem}
use Rattle.solomon_reader.specs.Region.{Region}
use Rattle.solomon_reader.specs.Relaxed.{IsRelaxed, reduced_cost, reduced_cost_by}
use Rattle.solomon_reader.specs.SetPrices.{PricedSet, paid_for_entries}
use Rattle.solomon_reader.specs.SubsetRows.{PricedRow, paid_for_charges}

-- a price of each customer, and the sets and rows that have one
pub record PricedLeaf : Type 0 where
  pub customers : List ℤ
  pub sets : List PricedSet
  pub rows : List PricedRow

-- where no row has a price
abbrev pub without_rows : List ℤ → List PricedSet → PricedLeaf
without_rows prices sets = record { customers = prices; sets = sets; rows = [] }

-- in grains: the cost less the prices of the stops and of the sets, each as often as the route enters it, and what rows charge
abbrev pub reduced_cost_at : Problem → ℕ → PricedLeaf → List ℕ → ℤ
reduced_cost_at p k leaf r = (reduced_cost p leaf.customers r -ℤ pos (paid_for_entries leaf.sets r)) +ℤ pos (paid_for_charges p k leaf.rows r)

-- m is the least reduced cost of a relaxed route
pub record IsLeastAt (p : Problem) (g : Region) (k : ℕ) (leaf : PricedLeaf) (m : ℤ) : Type 0 where
  pub reached : (r : List ℕ) × IsRelaxed p g k r × (reduced_cost_at p k leaf r ≡ m)
  pub least : (r : List ℕ) → IsRelaxed p g k r → m ≤ℤ reduced_cost_at p k leaf r

-- m is the least reduced cost, or 0 where no route is relaxed
abbrev pub IsLeastOrZeroAt : Problem → Region → ℕ → PricedLeaf → ℤ → Type 0
IsLeastOrZeroAt p g k leaf m = IsLeastAt p g k leaf m ⊎ (((r : List ℕ) → ¬ IsRelaxed p g k r) × (m ≡ pos 0))

-- in grains: the cost less what the steps are paid, and what rows charge
abbrev pub charged_cost_by : Problem → ℕ → (ℕ → ℕ → ℤ) → List PricedRow → List ℕ → ℤ
charged_cost_by p k paid rows r = reduced_cost_by p paid r +ℤ pos (paid_for_charges p k rows r)

-- m is the least reduced cost of a relaxed route, where steps are paid and rows charge
pub record IsLeastBy (p : Problem) (g : Region) (k : ℕ) (paid : ℕ → ℕ → ℤ) (rows : List PricedRow) (m : ℤ) : Type 0 where
  pub reached : (r : List ℕ) × IsRelaxed p g k r × (charged_cost_by p k paid rows r ≡ m)
  pub least : (r : List ℕ) → IsRelaxed p g k r → m ≤ℤ charged_cost_by p k paid rows r
