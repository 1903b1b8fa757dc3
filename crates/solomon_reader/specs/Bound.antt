-- The value of a leaf, the ceiling of an instance, and the bound of a tree.
use Rattle.std.specs.Prelude.{◌≡◌, ℕ, ◌+◌, ◌*◌, ◌≤◌, max, min, List, [], ◌∷◌, ◌++◌, map, length, ℤ, pos, ◌+ℤ◌, ◌-ℤ◌, ◌*ℤ◌, ◌≤ℤ◌}
use Rattle.std.specs.Int.{div_ceil, int_min, int_max}
use Rattle.std.specs.List.{flat_map, range_with_len, sum_by}
use Rattle.solomon_reader.specs.Problem.{Problem, customers, customer_count, demand}
use Rattle.solomon_reader.specs.Distance.{distance}
use Rattle.solomon_reader.specs.Plan.{Arc}
use Rattle.solomon_reader.specs.Region.{Region, IsUndecided, used_child, unused_child, root_region}
use Rattle.solomon_reader.specs.Relaxed.{IsLeastOrZero, int_sum}
use Rattle.solomon_reader.specs.SetPrices.{ListedSet, SetPrice, paid_for_needs, priced_sets}
use Rattle.solomon_reader.specs.SubsetRows.{SubsetRow, RowPrice, priced_rows, row_price_sum}
use Rattle.solomon_reader.specs.PricedLeaf.{PricedLeaf, without_rows, IsLeastOrZeroAt}

-- which rule gives the value of a leaf; by the last two sets of this list, and rows of this one, may have prices
pub data Version : Type 0 where
  version_1 : Version
  version_2 : Version
  with_sets : List ListedSet → Version
  with_rows : List ListedSet → List SubsetRow → Version

abbrev pub listed_sets : Version → List ListedSet
listed_sets version_1 = []
listed_sets version_2 = []
listed_sets (with_sets sets) = sets
listed_sets (with_rows sets rows) = sets

abbrev pub listed_rows : Version → List SubsetRow
listed_rows version_1 = []
listed_rows version_2 = []
listed_rows (with_sets sets) = []
listed_rows (with_rows sets rows) = rows

-- v is the least whole number of tenths that covers z grains, so 0 where z is negative
pub record IsRoundedUp (z : ℤ) (v : ℕ) : Type 0 where
  pub covers : z ≤ℤ pos (1000 * v)
  pub least : (w : ℕ) → z ≤ℤ pos (1000 * w) → v ≤ w

-- how many vehicles carry all demands, rounded up: no plan has fewer routes
abbrev pub fewest_routes : Problem → ℕ
fewest_routes p = div_ceil (sum_by (demand p) (customers p)) p.capacity

-- how many routes a version counts on, beside those that the fleet allows
abbrev pub routes_counted : Version → Problem → ℕ
routes_counted version_1 p = 0
routes_counted version_2 p = fewest_routes p
routes_counted (with_sets sets) p = fewest_routes p
routes_counted (with_rows sets rows) p = fewest_routes p

-- in grains: the prices, less what each vehicle may win back where the least reduced cost is below 0, and what each route counted on costs at least where it is above
abbrev pub grains_of : Version → Problem → List ℤ → ℤ → ℤ
grains_of version p prices least = (int_sum prices +ℤ (pos p.fleet *ℤ int_min (pos 0) least)) +ℤ (pos (routes_counted version p) *ℤ int_max (pos 0) least)

-- the value of a leaf, in tenths
pub record IsLeafValue (version : Version) (p : Problem) (g : Region) (k : ℕ) (prices : List ℤ) (v : ℕ) : Type 0 where
  pub priced : length prices ≡ customer_count p
  pub least : ℤ
  pub is_least : IsLeastOrZero p g k prices least
  pub rounded : IsRoundedUp (grains_of version p prices least) v

-- the same where sets and rows have prices: with what all needed entries are paid, less a charge by each row, since a plan is charged no more
pub record IsLeafValueAt (version : Version) (p : Problem) (g : Region) (k : ℕ) (leaf : PricedLeaf) (v : ℕ) : Type 0 where
  pub priced : length leaf.customers ≡ customer_count p
  pub least : ℤ
  pub is_least : IsLeastOrZeroAt p g k leaf least
  pub rounded : IsRoundedUp ((grains_of version p leaf.customers least +ℤ pos (paid_for_needs leaf.sets)) -ℤ pos (row_price_sum leaf.rows)) v

abbrev pub greatest_of : List ℕ → ℕ
greatest_of [] = 0
greatest_of (x ∷ xs) = max x (greatest_of xs)

-- the greatest distance between two rows
abbrev pub greatest_distance : Problem → ℕ
greatest_distance p =
    let rows = range_with_len 0 (length p.rows) in
    greatest_of (flat_map (λ i. map (λ j. distance p i j) rows) rows)

-- every plan costs at most this
abbrev pub ceiling_of : Problem → ℕ
ceiling_of p = 2 * customer_count p * greatest_distance p

-- the prices at a leaf: of each customer, of some sets and of some rows
pub record LeafPrices : Type 0 where
  pub customers : List ℤ
  pub sets : List SetPrice
  pub rows : List RowPrice

-- where no set or row has one
abbrev pub of_customers : List ℤ → LeafPrices
of_customers prices = record { customers = prices; sets = []; rows = [] }

-- with the sets and rows that have a price, out of these lists
abbrev pub leaf_at : List ListedSet → List SubsetRow → LeafPrices → PricedLeaf
leaf_at sets rows prices = record { customers = prices.customers; sets = priced_sets sets prices.sets; rows = priced_rows rows prices.rows }

-- v is the value of a leaf at these prices, in tenths
abbrev pub IsValueAt : Version → Problem → Region → ℕ → LeafPrices → ℕ → Type 0
IsValueAt version_1 p g k prices v = IsLeafValue version_1 p g k prices.customers v
IsValueAt version_2 p g k prices v = IsLeafValue version_2 p g k prices.customers v
IsValueAt (with_sets sets) p g k prices v = IsLeafValueAt (with_sets sets) p g k (without_rows prices.customers (priced_sets sets prices.sets)) v
IsValueAt (with_rows sets rows) p g k prices v = IsLeafValueAt (with_rows sets rows) p g k (leaf_at sets rows prices) v

-- a tree of splits: prices at a leaf, or an arc with the tree where it is used and the tree where it isn't
pub data Tree : Type 0 where
  leaf : LeafPrices → Tree
  split : Arc → Tree → Tree → Tree

-- one node of a tree: the prices of a leaf, or the arc of a split
pub data Node : Type 0 where
  leaf_node : LeafPrices → Node
  split_node : Arc → Node

-- the nodes in preorder, the tree where the arc is used first
abbrev pub preorder : Tree → List Node
preorder (leaf prices) = leaf_node prices ∷ []
preorder (split a used unused) = split_node a ∷ (preorder used ++ preorder unused)

-- b is the least of the ceiling plus one and the values of the tree's leaves, where the tree stands at the region g
abbrev pub HasBound : Version → Problem → ℕ → Region → Tree → ℕ → Type 0
HasBound version p k g (leaf prices) b = (v : ℕ) × IsValueAt version p g k prices v × (b ≡ min (ceiling_of p + 1) v)
HasBound version p k g (split a used unused) b =
    IsUndecided g a × ((x : ℕ) × ((y : ℕ) × (HasBound version p k (used_child g a) used x × HasBound version p k (unused_child g a) unused y × (b ≡ min x y))))

abbrev pub IsTreeBound : Version → Problem → ℕ → Tree → ℕ → Type 0
IsTreeBound version p k tree b = HasBound version p k (root_region (customer_count p)) tree b
