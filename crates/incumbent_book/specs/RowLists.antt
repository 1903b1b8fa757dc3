-- A list of rows that grows.
use Rattle.std.specs.Prelude.{◌≡◌, ℕ, ◌<◌, ◌≤◌, true, false, List, length, map, slice_index_or}
use Rattle.solomon_reader.specs.CustomerSets.{IsCustomerSet}
use Rattle.solomon_reader.specs.SubsetRows.{SubsetRow, PricedRow, RowPrice, priced_rows}
use Rattle.solomon_reader.specs.CertificateText.{is_before}
use Rattle.incumbent_book.specs.Contents.{IsRowListing, LacksRowRoom}
use Rattle.incumbent_book.specs.declared.subset_row.SubsetRow.{SubsetRow as Listed}
use Rattle.incumbent_book.specs.declared.fault.BookFault.{BookFault}
use Rattle.incumbent_book.specs.declared.fault.BookFault.TheVariants.{Memory, RowsFull}

abbrev pub listed_row : Listed → SubsetRow
listed_row s = record { first = s.first; second = s.second; third = s.third }

abbrev pub no_row : SubsetRow
no_row = record { first = 0; second = 0; third = 0 }

-- the place of a row among rows in increasing order: all before it stand before the row, and the one there doesn't
pub record IsPlaceFor (s : SubsetRow) (rows : List SubsetRow) (i : ℕ) : Type 0 where
  pub within : i ≤ length rows
  pub before : (k : ℕ) → k < i → is_before (slice_index_or rows k no_row) s ≡ true
  pub behind : i < length rows → is_before (slice_index_or rows i no_row) s ≡ false

-- some rows are listed, too; the list has at most so many
pub record IsRowGrown (most : ℕ) (more old new : List SubsetRow) : Type 0 where
  pub listing : IsRowListing old more new
  pub few : length new ≤ most

-- why rows aren't listed: memory was refused, or there is no room
abbrev pub AreRowsUnlistedFor : ℕ → List SubsetRow → List SubsetRow → BookFault → Type 0
AreRowsUnlistedFor most more listed Memory = Unit {0}
AreRowsUnlistedFor most more listed RowsFull = LacksRowRoom most listed more
AreRowsUnlistedFor most more listed why = ⊥

-- the prices of rows by their numbers in a list, in the list's order
pub record AreRowsNumbered (listed : List SubsetRow) (rows : List PricedRow) (prices : List RowPrice) : Type 0 where
  pub numbers : IsCustomerSet (length listed) (map (λ q. q.0) prices)
  pub are : priced_rows listed prices ≡ rows
