-- Prices have no lower value by the second version than by the version of a text.
use Rattle.std.proofs.Common.{◌≡◌, refl, ℕ, ◌+◌, ◌-◌, ◌*◌, ◌≤◌, List, [], ◌∷◌, map, length, slice_index_or, arith, inl, inr}
use Rattle.std.specs.Prelude.{ℤ, pos, ◌+ℤ◌, ◌-ℤ◌, ◌≤ℤ◌, nat_abs}
use Rattle.std.specs.List.{AllByRecursion}
use Rattle.std.proofs.lemmas.Int.{ints}
use Rattle.std.proofs.lemmas.List.Sums.{sum_by-cons}
use Rattle.std.proofs.lemmas.Nat.{mul-le}
use Rattle.solomon_reader.specs.Problem.{Problem}
use Rattle.solomon_reader.specs.Region.{Region}
use Rattle.solomon_reader.specs.CustomerSets.{IsCustomerSet}
use Rattle.solomon_reader.specs.SetPrices.{ListedSet, PricedSet, SetPrice, paid_for_needs, priced_sets, price_sum}
use Rattle.solomon_reader.specs.SubsetRows.{SubsetRow, PricedRow, RowPrice, priced_rows, row_price_sum}
use Rattle.solomon_reader.specs.PricedLeaf.{PricedLeaf, without_rows, IsLeastOrZeroAt}
use Rattle.solomon_reader.specs.AmongLaws.{weaker}
use Rattle.solomon_reader.specs.declared.limits.TheConstants.{MOST_PRICE}
use Rattle.solomon_reader.specs.SetDualityLaws.{same_without}
use Rattle.solomon_reader.specs.SumLaws.{up, times_up}
use Rattle.solomon_reader.specs.Bound.{Version, version_1, version_2, with_sets, with_rows, listed_sets, listed_rows, leaf_at, routes_counted, grains_of, LeafPrices, IsValueAt, IsLeafValueAt}
use Rattle.solomon_reader.specs.CertificateText.{IsPrice, AreSetPrices, AreRowPrices, set_prices_sum, row_prices_sum}
use Rattle.priced_sets.specs.Sets.{IsWithin}
use Rattle.fronts.specs.Fronts.{IsWithinAll}

-- there is one least reduced cost
one_least : (p : Problem) (g : Region) (k : ℕ) (leaf : PricedLeaf) (m n : ℤ) → IsLeastOrZeroAt p g k leaf m → IsLeastOrZeroAt p g k leaf n → m ≡ n
one_least p g k leaf m n (inl a) (inl b) = omega (arith, ints, a.reached.2, b.reached.2, a.least b.reached.0 b.reached.1, b.least a.reached.0 a.reached.1)
one_least p g k leaf m n (inl a) (inr b) = absurd (b.0 a.reached.0 a.reached.1)
one_least p g k leaf m n (inr a) (inl b) = absurd (a.0 b.reached.0 b.reached.1)
one_least p g k leaf m n (inr a) (inr b) = omega (arith, ints, a.1, b.1)

counted_most : (version : Version) (p : Problem) → routes_counted version p ≤ routes_counted version_2 p
counted_most version_1 p = omega arith
counted_most version_2 p = omega arith
counted_most (with_sets sets) p = omega arith
counted_most (with_rows sets rows) p = omega arith

grains_low : (version : Version) (p : Problem) (prices : List ℤ) (m : ℤ) → grains_of version p prices m ≤ℤ grains_of version_2 p prices m
grains_low version p prices m =
    omega (
      arith,
      ints,
      times_up (routes_counted version p) m,
      times_up (routes_counted version_2 p) m,
      mul-le (routes_counted version p) (up m) (routes_counted version_2 p) (up m) (counted_most version p) (omega arith),
    )

value_low : (version : Version) (p : Problem) (g : Region) (k : ℕ) (leaf : PricedLeaf) (v w : ℕ) → IsLeafValueAt version p g k leaf v → IsLeafValueAt version_2 p g k leaf w → v ≤ w
value_low version p g k leaf v w a b =
    let e : a.least ≡ b.least = one_least p g k leaf a.least b.least a.is_least b.is_least in
    let covers : ((grains_of version_2 p leaf.customers a.least +ℤ pos (paid_for_needs leaf.sets)) -ℤ pos (row_price_sum leaf.rows)) ≤ℤ pos (1000 * w) = rw e b.rounded.covers in
    a.rounded.least w (omega (arith, ints, covers, grains_low version p leaf.customers a.least))

-- of no sets none has a price
none_priced : (prices : List SetPrice) → IsCustomerSet 0 (map (λ m. m.0) prices) → prices ≡ []
none_priced [] numbers = refl
none_priced (m ∷ prices) numbers = absurd (omega (arith, numbers.rising.0, numbers.known.0))

-- and of no rows
no_row_priced : (prices : List RowPrice) → AreRowPrices 0 prices → prices ≡ []
no_row_priced [] are = refl
no_row_priced (q ∷ prices) are = absurd (omega (arith, are.numbers.rising.0, are.numbers.known.0))

-- the value of a leaf in a text is at most that of its prices
pub text_low : (version : Version) (p : Problem) (g : Region) (k : ℕ) (prices : LeafPrices) (v w : ℕ) → AreSetPrices (length (listed_sets version)) prices
    → AreRowPrices (length (listed_rows version)) prices.rows → IsValueAt version p g k prices v
    → IsLeafValueAt version_2 p g k (leaf_at (listed_sets version) (listed_rows version) prices) w → v ≤ w
text_low version_1 p g k prices v w are rows_are is value =
    value_low version_1 p g k (without_rows prices.customers []) v w ((same_without version_1 p g k prices.customers v).1 is)
    (let none = none_priced prices.sets are.numbers in let bare = no_row_priced prices.rows rows_are in rw (none, bare) at value)
text_low version_2 p g k prices v w are rows_are is value =
    value_low version_2 p g k (without_rows prices.customers []) v w ((same_without version_2 p g k prices.customers v).1 is)
    (let none = none_priced prices.sets are.numbers in let bare = no_row_priced prices.rows rows_are in rw (none, bare) at value)
text_low (with_sets sets) p g k prices v w are rows_are is value =
    value_low (with_sets sets) p g k (without_rows prices.customers (priced_sets sets prices.sets)) v w is (let bare = no_row_priced prices.rows rows_are in rw bare at value)
text_low (with_rows sets rows) p g k prices v w are rows_are is value = value_low (with_rows sets rows) p g k (leaf_at sets rows prices) v w is value

-- ---- the range of the prices

sum_same : (listed : List ListedSet) (prices : List SetPrice) → price_sum (priced_sets listed prices) ≡ set_prices_sum prices
sum_same listed [] = refl
sum_same listed (m ∷ prices) =
    let s = slice_index_or listed (m.0 - 1) (record { members = []; need = 0 }) in
    omega (
      arith,
      sum_by-cons (λ (t : PricedSet). t.price) (record { members = s.members; need = s.need; price = m.1 }) (priced_sets listed prices),
      sum_by-cons (λ (t : SetPrice). t.1) m prices,
      sum_same listed prices,
    )

rows_same : (listed : List SubsetRow) (prices : List RowPrice) → row_price_sum (priced_rows listed prices) ≡ row_prices_sum prices
rows_same listed [] = refl
rows_same listed (q ∷ prices) =
    let s = slice_index_or listed (q.0 - 1) (record { first = 0; second = 0; third = 0 }) in
    omega (
      arith,
      sum_by-cons (λ (t : PricedRow). t.price) (record { row = s; price = q.1 }) (priced_rows listed prices),
      sum_by-cons (λ (t : RowPrice). t.1) q prices,
      rows_same listed prices,
    )

-- the prices of customers are within range together with those of the sets and rows
pub all_within : (sets : List ListedSet) (rows : List SubsetRow) (prices : LeafPrices) → AreSetPrices (length sets) prices
    → AllByRecursion (IsWithinAll (priced_sets sets prices.sets) (priced_rows rows prices.rows)) prices.customers
all_within sets rows prices are =
    weaker (λ z. (set_prices_sum prices.sets + row_prices_sum prices.rows) + nat_abs z ≤ MOST_PRICE) (IsWithinAll (priced_sets sets prices.sets) (priced_rows rows prices.rows))
    (λ z h. omega (arith, h, sum_same sets prices.sets, rows_same rows prices.rows)) prices.customers are.within

first_within : (sum : ℕ) (prices : List ℤ) → 1 ≤ length prices → AllByRecursion (λ z. sum + nat_abs z ≤ MOST_PRICE) prices → sum ≤ MOST_PRICE
first_within sum [] some within = absurd (omega arith)
first_within sum (z ∷ prices) some within = omega (arith, within.0)

-- where there is a customer those of the rows are so together
pub rows_within : (sets : List ListedSet) (rows : List SubsetRow) (prices : LeafPrices) → 1 ≤ length prices.customers → AreSetPrices (length sets) prices → row_price_sum (priced_rows rows prices.rows) ≤ MOST_PRICE
rows_within sets rows prices some are =
    omega (arith, rows_same rows prices.rows, first_within (set_prices_sum prices.sets + row_prices_sum prices.rows) prices.customers some are.within)

within_no_sets : (prices : List ℤ) → AllByRecursion IsPrice prices → AllByRecursion (IsWithin []) prices
within_no_sets [] priced = tt
within_no_sets (z ∷ prices) priced = (omega (arith, priced.0), within_no_sets prices priced.1)

-- where no set has a price each price is in its range
pub within_none : (sets : List PricedSet) (prices : List ℤ) → sets ≡ [] → AllByRecursion IsPrice prices → AllByRecursion (IsWithin sets) prices
within_none sets prices none priced = rw none (within_no_sets prices priced)
