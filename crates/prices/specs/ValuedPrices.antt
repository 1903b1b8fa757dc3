-- A leaf with prices, and the value that they give it.
use Rattle.std.specs.Prelude.{◌≡◌, ℕ, ◌*◌, ◌<◌, ◌≤◌, List, length, ℤ, pos, Option, Some, None}
use Rattle.std.specs.List.{AllByRecursion}
use Rattle.solomon_reader.specs.Problem.{Problem, customer_count}
use Rattle.solomon_reader.specs.Region.{Region}
use Rattle.solomon_reader.specs.Bound.{version_2, IsLeafValueAt}
use Rattle.solomon_reader.specs.SetPrices.{PricedSet}
use Rattle.solomon_reader.specs.SubsetRows.{PricedRow}
use Rattle.solomon_reader.specs.PricedLeaf.{PricedLeaf}
use Rattle.priced_sets.specs.Sets.{ArePriced}
use Rattle.fronts.specs.Fronts.{IsWithinAll}
use Rattle.labelling.specs.PricedRows.{ArePricedRows}
use Rattle.solomon_reader.specs.declared.limits.TheConstants.{MOST_NEIGHBOURS, MOST_PRICE, MOST_NEED, MOST_ROW_PRICES}

-- prices of customers, sets and rows at a region, and a value in tenths
pub record ValuedPrices : Type 0 where
  pub problem : Problem
  pub region : Region
  pub neighbours : ℕ
  pub prices : List ℤ
  pub sets : List PricedSet
  pub rows : List PricedRow
  pub value : ℕ

-- what has a price there
abbrev pub leaf_of : ValuedPrices → PricedLeaf
leaf_of f = record { customers = f.prices; sets = f.sets; rows = f.rows }

-- no value reaches this
abbrev pub MOST_VALUE : ℕ
MOST_VALUE = 100000000000000000000

-- nor is a least reduced cost farther from 0 than this, in grains
abbrev pub MOST_LEAST : ℕ
MOST_LEAST = 20000000000000000

-- the value is that of a leaf at the region with these prices
pub record IsValued (f : ValuedPrices) : Type 0 where
  pub size : f.region.size ≡ customer_count f.problem
  pub few : f.neighbours ≤ MOST_NEIGHBOURS
  pub sets_are : ArePriced f.problem f.sets
  pub few_rows : length f.rows ≤ MOST_ROW_PRICES
  pub rows_are : ArePricedRows (customer_count f.problem) f.rows
  pub priced : AllByRecursion (IsWithinAll f.sets f.rows) f.prices
  pub valued : IsLeafValueAt version_2 f.problem f.region f.neighbours (leaf_of f) f.value
  pub bound : f.value < MOST_VALUE

-- all needed entries together are paid no more than this, in grains
abbrev pub MOST_NEEDS : ℕ
MOST_NEEDS = MOST_PRICE * MOST_NEED

-- these prices at this region of the instance, with their value
pub record IsPricedBy (p : Problem) (g : Region) (k : ℕ) (leaf : PricedLeaf) (f : ValuedPrices) : Type 0 where
  pub problem : f.problem ≡ p
  pub region : f.region ≡ g
  pub neighbours : f.neighbours ≡ k
  pub prices : f.prices ≡ leaf.customers
  pub sets : f.sets ≡ leaf.sets
  pub rows : f.rows ≡ leaf.rows
  pub valued : IsValued f

-- the least reduced cost, or 0 where there is none
abbrev pub or_zero : Option ℤ → ℤ
or_zero None = pos 0
or_zero (Some m) = m
