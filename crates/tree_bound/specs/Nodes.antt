-- The least value at the leaves of a tree.
use Rattle.std.specs.Prelude.{◌≡◌, ℕ, min, length}
use Rattle.std.specs.List.{AllByRecursion}
use Rattle.solomon_reader.specs.Problem.{Problem}
use Rattle.solomon_reader.specs.Region.{Region}
use Rattle.solomon_reader.specs.Bound.{Version, LeafPrices, Tree, listed_sets, listed_rows, HasBound, IsValueAt}
use Rattle.solomon_reader.specs.CertificateText.{IsPrice, AreSetPrices, AreRowPrices}

-- what a tree says of the prices of a leaf, for so many customers
abbrev pub IsLeafAt : Version → ℕ → LeafPrices → Type 0
IsLeafAt version n prices = (length prices.customers ≡ n) × AllByRecursion IsPrice prices.customers × AreSetPrices (length (listed_sets version)) prices
    × AreRowPrices (length (listed_rows version)) prices.rows

-- b is the lesser of a number and the value of a leaf
pub record IsLesserAt (version : Version) (p : Problem) (g : Region) (k : ℕ) (prices : LeafPrices) (most b : ℕ) : Type 0 where
  pub value : ℕ
  pub is_value : IsValueAt version p g k prices value
  pub lesser : b ≡ min most value

-- b is the lesser of a number and the bound of a tree
pub record IsBoundOf (version : Version) (p : Problem) (k : ℕ) (g : Region) (tree : Tree) (most b : ℕ) : Type 0 where
  pub bound : ℕ
  pub is_bound : HasBound version p k g tree bound
  pub lesser : b ≡ min most bound
