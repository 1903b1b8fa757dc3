-- Prices at a leaf where no set or row has one.
use Rattle.std.proofs.Common.{ℕ, ◌+◌, ◌≤◌, List, [], ◌∷◌, arith}
use Rattle.std.specs.Prelude.{ℤ, nat_abs}
use Rattle.std.specs.List.{AllByRecursion}
use Rattle.solomon_reader.specs.declared.limits.TheConstants.{MOST_PRICE}
use Rattle.solomon_reader.specs.Bound.{of_customers}
use Rattle.solomon_reader.specs.CertificateText.{IsPrice, AreSetPrices, AreRowPrices, set_prices_sum, row_prices_sum}

within_alone : (prices : List ℤ) → AllByRecursion IsPrice prices → AllByRecursion (λ z. (set_prices_sum [] + row_prices_sum []) + nat_abs z ≤ MOST_PRICE) prices
within_alone [] are = tt
within_alone (z ∷ prices) are = (omega (arith, are.0), within_alone prices are.1)

-- prices of customers are prices beside those of no sets, however many are listed
pub priced_alone : (listed : ℕ) (prices : List ℤ) → AllByRecursion IsPrice prices → AreSetPrices listed (of_customers prices)
priced_alone listed prices are = record { numbers = record { rising = tt; known = tt }; some = tt; within = within_alone prices are }

-- and prices of no rows
pub no_row_priced : (listed : ℕ) → AreRowPrices listed []
no_row_priced listed = record { numbers = record { rising = tt; known = tt }; some = tt; few = omega arith }
