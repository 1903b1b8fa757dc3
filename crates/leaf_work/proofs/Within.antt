-- Customers' prices beside those of sets and rows.
use Rattle.std.proofs.Common.{◌≡◌, ◌+◌, ◌≤◌, ℕ, List, arith}
use Rattle.std.specs.Prelude.{ℤ, pos, nat_abs}
use Rattle.std.specs.List.{AllByRecursion}
use Rattle.solomon_reader.specs.AmongLaws.{weaker}
use Rattle.solomon_reader.specs.SetPrices.{PricedSet, price_sum}
use Rattle.solomon_reader.specs.SubsetRows.{PricedRow, row_price_sum}
use Rattle.solomon_reader.specs.declared.limits.TheConstants.{MOST_PRICE}
use Rattle.priced_sets.specs.Sets.{IsWithin}
use Rattle.fronts.specs.Fronts.{IsWithinAll}

-- prices that leave room for those of sets and rows are in their range beside them
pub within_room : (sets : List PricedSet) (rows : List PricedRow) (most : ℕ) (prices : List ℤ) → price_sum sets + (row_price_sum rows + most) ≡ MOST_PRICE
    → AllByRecursion (λ z. nat_abs z ≤ most) prices → AllByRecursion (IsWithinAll sets rows) prices
within_room sets rows most prices room all = weaker (λ z. nat_abs z ≤ most) (IsWithinAll sets rows) (λ z h. omega (arith, h, room)) prices all

-- prices of zero are in their range beside any sets
pub zeros_within : (sets : List PricedSet) (prices : List ℤ) → price_sum sets ≤ MOST_PRICE → AllByRecursion (λ z. z ≡ pos 0) prices → AllByRecursion (IsWithin sets) prices
zeros_within sets prices room all = weaker (λ z. z ≡ pos 0) (IsWithin sets) (λ z e. rw e (omega (arith, room))) prices all
