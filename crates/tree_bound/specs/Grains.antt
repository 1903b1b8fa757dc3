-- The value of a leaf as a number of grains.
use Rattle.std.specs.Prelude.{◌≡◌, ℕ, ◌+◌, ◌*◌, ◌≤◌, min, length, nat_abs, ℤ, pos, ◌+ℤ◌, ◌-ℤ◌, ◌*ℤ◌, Option, None}
use Rattle.std.specs.Int.{int_min, int_max}
use Rattle.std.specs.List.{AllByRecursion}
use Rattle.solomon_reader.specs.declared.limits.TheConstants.{MOST_CUSTOMERS, MOST_NEED, MOST_PRICE}
use Rattle.solomon_reader.specs.Problem.{Problem, customer_count}
use Rattle.solomon_reader.specs.Region.{Region}
use Rattle.solomon_reader.specs.Relaxed.{int_sum}
use Rattle.solomon_reader.specs.CustomerSets.{IsCustomerSet}
use Rattle.solomon_reader.specs.SetPrices.{paid_for_needs, price_sum}
use Rattle.solomon_reader.specs.SubsetRows.{row_price_sum}
use Rattle.solomon_reader.specs.PricedLeaf.{PricedLeaf}
use Rattle.solomon_reader.specs.Bound.{Version, routes_counted, IsRoundedUp, IsLeafValueAt}
use Rattle.tree_bound.specs.declared.difference.Difference.{Difference}
use Rattle.tree_bound.specs.Cover.{or_zero}

-- a price for each customer, within the range together with those of sets and rows, and sets that need what a listed one may
pub record ArePrices (p : Problem) (leaf : PricedLeaf) : Type 0 where
  pub count : length leaf.customers ≡ customer_count p
  pub within : AllByRecursion (λ z. (price_sum leaf.sets + row_price_sum leaf.rows) + nat_abs z ≤ MOST_PRICE) leaf.customers
  pub sets_are : AllByRecursion (λ s. IsCustomerSet (customer_count p) s.members) leaf.sets
  pub needs : AllByRecursion (λ s. s.need ≤ MOST_NEED) leaf.sets

-- the prices, and what all needed entries are paid, less a charge by each row
abbrev pub leaf_sum : PricedLeaf → ℤ
leaf_sum leaf = (int_sum leaf.customers +ℤ pos (paid_for_needs leaf.sets)) -ℤ pos (row_price_sum leaf.rows)

abbrev pub sum_in : Difference → ℤ
sum_in d = pos d.above -ℤ pos d.below

-- the sides of a difference are small enough for sums with them
pub record IsSmall (d : Difference) : Type 0 where
  pub above : d.above ≤ MOST_CUSTOMERS * MOST_PRICE + MOST_PRICE * MOST_NEED
  pub below : d.below ≤ MOST_CUSTOMERS * MOST_PRICE + MOST_PRICE

-- the grains of a leaf whose prices, needed entries and rows make up a sum
abbrev pub grains_by : Version → Problem → ℤ → ℤ → ℤ
grains_by version p sum least = (sum +ℤ (pos p.fleet *ℤ int_min (pos 0) least)) +ℤ (pos (routes_counted version p) *ℤ int_max (pos 0) least)

-- a leaf whose least reduced cost is t has a value of at least so much
pub record IsWorth (version : Version) (p : Problem) (sum : ℤ) (t : ℤ) (most : ℕ) : Type 0 where
  pub value : ℕ
  pub rounded : IsRoundedUp (grains_by version p sum t) value
  pub high : most ≤ value

-- b is the lesser of a number and a value that no leaf exceeds: that at a known reduced cost of a relaxed route, or where no routes are counted on that without any
pub record IsLowered (version : Version) (p : Problem) (sum : ℤ) (known : Option ℤ) (most b : ℕ) : Type 0 where
  pub value : ℕ
  pub rounded : IsRoundedUp (grains_by version p sum (or_zero known)) value
  pub why : known ≡ None → routes_counted version p ≡ 0
  pub lesser : b ≡ min most value

-- b is the lesser of a number and the value of a leaf
pub record IsLesserValue (version : Version) (p : Problem) (g : Region) (k : ℕ) (leaf : PricedLeaf) (most b : ℕ) : Type 0 where
  pub value : ℕ
  pub is_value : IsLeafValueAt version p g k leaf value
  pub lesser : b ≡ min most value
