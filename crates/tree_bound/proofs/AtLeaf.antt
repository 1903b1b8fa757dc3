-- The prices of a leaf, and its value by the version.
use Rattle.std.proofs.Common.{◌≡◌, refl, ℕ, zero, suc, ◌-◌, ◌≤◌, List, [], ◌∷◌, map, length, slice_index_or, arith}
use Rattle.std.specs.List.{AllByRecursion}
use Rattle.std.proofs.lemmas.List.Sums.{sum_by-cons}
use Rattle.solomon_reader.specs.Problem.{Problem, customer_count}
use Rattle.solomon_reader.specs.Region.{Region}
use Rattle.solomon_reader.specs.CustomerSets.{IsCustomerSet}
use Rattle.solomon_reader.specs.SetPrices.{ListedSet, PricedSet, SetPrice, priced_sets, price_sum}
use Rattle.solomon_reader.specs.SubsetRows.{SubsetRow, PricedRow, RowPrice, priced_rows, row_price_sum}
use Rattle.solomon_reader.specs.SetDualityLaws.{same_without}
use Rattle.solomon_reader.specs.Bound.{Version, version_1, version_2, with_sets, with_rows, listed_sets, listed_rows, leaf_at, LeafPrices, IsValueAt, IsLeafValueAt}
use Rattle.solomon_reader.specs.CertificateText.{IsListedSet, AreSetPrices, AreRowPrices, set_prices_sum, row_prices_sum}
use Rattle.tree_bound.specs.Grains.{ArePrices, IsLesserValue}
use Rattle.tree_bound.specs.Nodes.{IsLeafAt, IsLesserAt}

-- the prices of the sets are those at the leaf
sum_same : (listed : List ListedSet) (prices : List SetPrice) → price_sum (priced_sets listed prices) ≡ set_prices_sum prices
sum_same listed [] = refl
sum_same listed (m ∷ prices) =
    let s = slice_index_or listed (m.0 - 1) (record { members = []; need = 0 }) in
    omega (
      arith,
      sum_by-cons (λ (t : PricedSet). t.price) (record { members = s.members; need = s.need; price = m.1 }) (priced_sets listed prices),
      sum_by-cons (λ (t : SetPrice). t.1) m prices,
      sum_same listed prices,
    )

-- the prices of the rows are those at the leaf
pub rows_same : (listed : List SubsetRow) (prices : List RowPrice) → row_price_sum (priced_rows listed prices) ≡ row_prices_sum prices
rows_same listed [] = refl
rows_same listed (q ∷ prices) =
    let s = slice_index_or listed (q.0 - 1) (record { first = 0; second = 0; third = 0 }) in
    omega (
      arith,
      sum_by-cons (λ (t : PricedRow). t.price) (record { row = s; price = q.1 }) (priced_rows listed prices),
      sum_by-cons (λ (t : RowPrice). t.1) q prices,
      rows_same listed prices,
    )

-- each set is one, also where none stands in the list
listed_at : (n : ℕ) (listed : List ListedSet) (i : ℕ) → AllByRecursion (IsListedSet n) listed
    → (let s = slice_index_or listed i (record { members = []; need = 0 }) in IsCustomerSet n s.members × (s.need ≤ 4000000))
listed_at n [] i all = (record { rising = tt; known = tt }, omega arith)
listed_at n (s ∷ listed) zero all = (all.0.customers, all.0.need.1)
listed_at n (s ∷ listed) (suc i) all = listed_at n listed i all.1

members_are : (n : ℕ) (listed : List ListedSet) (prices : List SetPrice) → AllByRecursion (IsListedSet n) listed → AllByRecursion (λ s. IsCustomerSet n s.members) (priced_sets listed prices)
members_are n listed [] all = tt
members_are n listed (m ∷ prices) all = ((listed_at n listed (m.0 - 1) all).0, members_are n listed prices all)

needs_are : (n : ℕ) (listed : List ListedSet) (prices : List SetPrice) → AllByRecursion (IsListedSet n) listed → AllByRecursion (λ s. s.need ≤ 4000000) (priced_sets listed prices)
needs_are n listed [] all = tt
needs_are n listed (m ∷ prices) all = ((listed_at n listed (m.0 - 1) all).1, needs_are n listed prices all)

-- what a certificate says of the prices at a leaf
pub prices_are : (version : Version) (p : Problem) (prices : LeafPrices) → AllByRecursion (IsListedSet (customer_count p)) (listed_sets version) → IsLeafAt version (customer_count p) prices
    → ArePrices p (leaf_at (listed_sets version) (listed_rows version) prices)
prices_are version p prices listed shaped = record {
  count = shaped.0;
  within = rw (sum_same (listed_sets version) prices.sets, rows_same (listed_rows version) prices.rows) shaped.2.within;
  sets_are = members_are (customer_count p) (listed_sets version) prices.sets listed;
  needs = needs_are (customer_count p) (listed_sets version) prices.sets listed;
}

-- of no sets or rows none has a price
none_priced : (prices : List SetPrice) → IsCustomerSet 0 (map (λ m. m.0) prices) → prices ≡ []
none_priced [] numbers = refl
none_priced (m ∷ prices) numbers = absurd (omega (arith, numbers.rising.0, numbers.known.0))

-- a value with the listed sets and rows is the one of the version
value_by : (version : Version) (p : Problem) (g : Region) (k : ℕ) (prices : LeafPrices) (v : ℕ) → AreSetPrices (length (listed_sets version)) prices
    → AreRowPrices (length (listed_rows version)) prices.rows → IsLeafValueAt version p g k (leaf_at (listed_sets version) (listed_rows version) prices) v
    → IsValueAt version p g k prices v
value_by version_1 p g k prices v are charging value =
    (same_without version_1 p g k prices.customers v).0 (let none = none_priced prices.sets are.numbers in let free = none_priced prices.rows charging.numbers in rw (none, free) at value)
value_by version_2 p g k prices v are charging value =
    (same_without version_2 p g k prices.customers v).0 (let none = none_priced prices.sets are.numbers in let free = none_priced prices.rows charging.numbers in rw (none, free) at value)
value_by (with_sets sets) p g k prices v are charging value = let free = none_priced prices.rows charging.numbers in rw free at value
value_by (with_rows sets rows) p g k prices v are charging value = value

pub lesser_at : (version : Version) (p : Problem) (g : Region) (k : ℕ) (prices : LeafPrices) (most b : ℕ) → AreSetPrices (length (listed_sets version)) prices
    → AreRowPrices (length (listed_rows version)) prices.rows → IsLesserValue version p g k (leaf_at (listed_sets version) (listed_rows version) prices) most b
    → IsLesserAt version p g k prices most b
lesser_at version p g k prices most b are charging h = record { value = h.value; is_value = value_by version p g k prices h.value are charging h.is_value; lesser = h.lesser }
