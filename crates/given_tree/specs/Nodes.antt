-- The prices at a leaf of a tree.
use Rattle.std.specs.Prelude.{◌≡◌, ℕ, List, map, length, ℤ}
use Rattle.std.specs.List.{AllByRecursion}
use Rattle.solomon_reader.specs.Bound.{Version, LeafPrices, listed_sets, listed_rows}
use Rattle.solomon_reader.specs.CertificateText.{IsPrice, IsListedRow, AreInOrder, AreSetPrices, AreRowPrices}
use Rattle.certificate.specs.declared.sets.SetPrice.{SetPrice}
use Rattle.certificate.specs.declared.rows.RowPrice.{RowPrice}
use Rattle.certificate.specs.Tree.{set_price_of, row_price_of}

-- what contracts see of the prices at a leaf
abbrev pub prices_of : List ℤ → List SetPrice → List RowPrice → LeafPrices
prices_of prices set_prices row_prices = record { customers = prices; sets = map set_price_of set_prices; rows = map row_price_of row_prices }

-- what a tree says of the prices of a leaf, for so many customers
abbrev pub IsLeafAt : Version → ℕ → LeafPrices → Type 0
IsLeafAt version n prices = (length prices.customers ≡ n) × AllByRecursion IsPrice prices.customers × AreSetPrices (length (listed_sets version)) prices × AreRowPrices (length (listed_rows version)) prices.rows

-- the rows of a tree are of so many customers, in increasing order
pub record AreRowsKnown (version : Version) (n : ℕ) : Type 0 where
  pub listed : AllByRecursion (IsListedRow n) (listed_rows version)
  pub in_order : AreInOrder (listed_rows version)
