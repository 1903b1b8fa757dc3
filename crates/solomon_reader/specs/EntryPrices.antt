-- What steps from a row are paid for the sets that they enter.
use Rattle.std.specs.Prelude.{◌≡◌, ℕ, ◌+◌, ◌<◌, ◌≤◌, cond, List, length, slice_index_or}
use Rattle.solomon_reader.specs.CustomerSets.{enters}
use Rattle.solomon_reader.specs.SetPrices.{PricedSet, paid_over}

-- what steps from v are paid, before and after a set
pub record IsEntered (s : PricedSet) (v : ℕ) (before after : List ℕ) : Type 0 where
  pub count : length after ≡ length before
  pub each : (j : ℕ) → j < length before → slice_index_or after j 0 ≡ slice_index_or before j 0 + cond (enters s.members (v, j)) s.price 0

-- what steps from v to the rows up to n are paid for entering sets; the list may be empty where that is nothing
pub record ArePaid (sets : List PricedSet) (v n : ℕ) (paid : List ℕ) : Type 0 where
  pub each : (j : ℕ) → j ≤ n → slice_index_or paid j 0 ≡ paid_over sets (v, j)
