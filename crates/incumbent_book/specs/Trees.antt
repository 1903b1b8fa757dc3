-- The tree that a history and the prices of the leaves make, and its list of nodes.
use Rattle.std.specs.Prelude.{◌≡◌, ℕ, ◌≤◌, List, map, length, Some, slice_index_or}
use Rattle.std.specs.List.Sorted.{IsPermutation}
use Rattle.solomon_reader.specs.Problem.{customer_count}
use Rattle.solomon_reader.specs.Region.{root_region}
use Rattle.solomon_reader.specs.CustomerSets.{IsCustomerSet}
use Rattle.solomon_reader.specs.SetPrices.{priced_sets}
use Rattle.solomon_reader.specs.SubsetRows.{priced_rows}
use Rattle.solomon_reader.specs.Bound.{Version, LeafPrices, Tree, leaf, split, IsTreeBound}
use Rattle.solomon_reader.specs.CertificateText.{IsTreeAt}
use Rattle.solomon_reader.specs.CertificateText as certificate
use Rattle.solomon_reader.specs.History.{Event, split_of, used_number, unused_number, IsLeaf, IsBound, leaf_count}
use Rattle.incumbent_book.specs.Contents.{Contents, OwnPrices, Lists, lists_of, no_prices, version_of}

-- the prices of a leaf, where lists name its sets and its rows, each in the list's order
pub record AreNamed (listed : Lists) (own : OwnPrices) (prices : LeafPrices) : Type 0 where
  pub customers : prices.customers ≡ own.customers
  pub numbers : IsCustomerSet (length listed.sets) (map (λ m. m.0) prices.sets)
  pub sets : IsPermutation own.sets (priced_sets listed.sets prices.sets)
  pub row_numbers : IsCustomerSet (length listed.rows) (map (λ q. q.0) prices.rows)
  pub rows : priced_rows listed.rows prices.rows ≡ own.rows

-- the tree stands at a number: a leaf with its prices, or a split with the trees at both children
abbrev pub GrowsAt : List Event → Lists → List OwnPrices → ℕ → Tree → Type 0
GrowsAt past listed prices m (leaf ps) = IsLeaf past m × AreNamed listed (slice_index_or prices m no_prices) ps
GrowsAt past listed prices m (split a used unused) =
    (j : ℕ) × (split_of past m ≡ Some (j, a)) × GrowsAt past listed prices (used_number j) used × GrowsAt past listed prices (unused_number j) unused

abbrev pub version_of_book : Contents → Version
version_of_book b = version_of b.most_sets b.listed b.most_rows b.rows

-- the tree of a book: it stands at the root, its bound is the book's, and it is within the limits of a certificate
pub record IsTreeOf (b : Contents) (tree : Tree) : Type 0 where
  pub grows : GrowsAt b.past (lists_of b) b.prices 0 tree
  pub bound : (c : ℕ) → IsBound b.problem b.root b.past c → IsTreeBound (version_of_book b) b.problem b.neighbours tree c
  pub shaped : IsTreeAt (version_of_book b) (root_region (customer_count b.problem)) tree
  pub leaves : certificate.leaf_count tree ≡ leaf_count b.past
  pub depth : certificate.depth_of tree ≤ b.limits.depth
