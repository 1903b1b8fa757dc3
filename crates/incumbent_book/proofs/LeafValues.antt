-- The value of a leaf and its shape in a certificate, where its sets and rows are named by lists.
use Rattle.std.proofs.Common.{◌≡◌, refl, ℕ, zero, suc, ◌+◌, ◌≤◌, List, [], ◌∷◌, length, arith, subst, ◌∙◌, inl, inr}
use Rattle.std.specs.Prelude.{◌-◌, ℤ, nat_abs, slice_index_or}
use Rattle.std.specs.List.{AllByRecursion}
use Rattle.std.specs.List.Sorted.{IsPermutation}
use Rattle.std.proofs.lemmas.Int.{ints}
use Rattle.std.proofs.lemmas.List.Sums.{sum_by-cons}
use Rattle.std.proofs.lemmas.List.Sorted.{sum_by-IsPermutation, All-permutation}
use Rattle.std.proofs.lemmas.List.Elements.{All-from_recursion, recursion_from_All}
use Rattle.solomon_reader.specs.Problem.{Problem}
use Rattle.solomon_reader.specs.Region.{Region}
use Rattle.solomon_reader.specs.Bound.{version_2, with_sets, with_rows, listed_sets, listed_rows, LeafPrices, IsLeafValueAt, IsValueAt}
use Rattle.solomon_reader.specs.CertificateText.{AreSetPrices, AreRowPrices, IsPrice, set_prices_sum, row_prices_sum}
use Rattle.solomon_reader.specs.SetPrices.{ListedSet, PricedSet, SetPrice, IsTrueNeed, paid_for_entries, paid_for_needs, price_sum, priced_sets}
use Rattle.solomon_reader.specs.SubsetRows.{SubsetRow, PricedRow, RowPrice, priced_rows, row_price_sum}
use Rattle.solomon_reader.specs.PricedLeaf.{PricedLeaf, without_rows, reduced_cost_at, IsLeastOrZeroAt}
use Rattle.solomon_reader.specs.SetDualityLaws.{same_without}
use Rattle.solomon_reader.specs.AmongLaws.{weaker}
use Rattle.solomon_reader.specs.declared.limits.TheConstants.{MOST_PRICE, MOST_ROW_PRICES}
use Rattle.priced_sets.specs.Sets.{ArePriced}
use Rattle.fronts.specs.Fronts.{IsWithinAll}
use Rattle.labelling.specs.PricedRows.{ArePricedRows}
use Rattle.incumbent_book.specs.Contents.{OwnPrices, Lists, AreListed, AreRowsListed, bare, version_of}
use Rattle.incumbent_book.specs.SetLists.{no_set}
use Rattle.incumbent_book.specs.RowLists.{no_row}
use Rattle.incumbent_book.specs.Trees.{AreNamed}

-- ---- the same value with the sets in another order

module _ (p : Problem) (k : ℕ) (prices : List ℤ) (sets others : List PricedSet) (rows : List PricedRow) (same : IsPermutation sets others) where
  abbrev one_leaf : PricedLeaf
  one_leaf = record { customers = prices; sets = sets; rows = rows }

  abbrev other_leaf : PricedLeaf
  other_leaf = record { customers = prices; sets = others; rows = rows }

  same_entries : (r : List ℕ) → paid_for_entries others r ≡ paid_for_entries sets r
  same_entries r = sum_by-IsPermutation _ sets others same

  same_needs : paid_for_needs others ≡ paid_for_needs sets
  same_needs = sum_by-IsPermutation _ sets others same

  same_cost : (r : List ℕ) → reduced_cost_at p k other_leaf r ≡ reduced_cost_at p k one_leaf r
  same_cost r = omega (arith, ints, same_entries r)

  same_least : (g : Region) (m : ℤ) → IsLeastOrZeroAt p g k one_leaf m → IsLeastOrZeroAt p g k other_leaf m
  same_least g m (inl is) = inl (record {
    reached = (is.reached.0, is.reached.1, same_cost is.reached.0 ∙ is.reached.2);
    least = λ r h. omega (arith, ints, same_cost r, is.least r h);
  })
  same_least g m (inr none) = inr none

  pub same_value : (listed : List ListedSet) (g : Region) (v : ℕ) → IsLeafValueAt version_2 p g k one_leaf v → IsLeafValueAt (with_sets listed) p g k other_leaf v
  same_value listed g v value = record {
    priced = value.priced;
    least = value.least;
    is_least = same_least g value.least value.is_least;
    rounded = rw same_needs value.rounded;
  }

  pub same_row_value : (listed : List ListedSet) (rows_listed : List SubsetRow) (g : Region) (v : ℕ) → IsLeafValueAt version_2 p g k one_leaf v
      → IsLeafValueAt (with_rows listed rows_listed) p g k other_leaf v
  same_row_value listed rows_listed g v value = record {
    priced = value.priced;
    least = value.least;
    is_least = same_least g value.least value.is_least;
    rounded = rw same_needs value.rounded;
  }

none_listed : (sets : List PricedSet) → AreListed [] sets → sets ≡ []
none_listed [] h = refl
none_listed (s ∷ sets) h = absurd h.0

no_rows_listed : (rows : List PricedRow) → AreRowsListed [] (bare rows) → rows ≡ []
no_rows_listed [] h = refl
no_rows_listed (s ∷ rows) h = absurd h.0

abbrev leaf_of_own : OwnPrices → PricedLeaf
leaf_of_own own = record { customers = own.customers; sets = own.sets; rows = own.rows }

-- the value where rows may have prices
row_value : (most : ℕ) (listed : List ListedSet) (rows : List SubsetRow) (own : OwnPrices) (prices : LeafPrices) (p : Problem) (g : Region) (k v : ℕ)
    → AreNamed (record { sets = listed; rows = rows }) own prices → IsLeafValueAt version_2 p g k (leaf_of_own own) v → IsValueAt (with_rows listed rows) p g k prices v
row_value most listed rows own prices p g k v named value =
    rw (named.customers, named.rows) (same_row_value p k own.customers own.sets (priced_sets listed prices.sets) own.rows named.sets listed rows g v value)

-- the value by the version in which a book's tree is told
pub named_value : (most : ℕ) (listed : List ListedSet) (most_rows : ℕ) (rows : List SubsetRow) (own : OwnPrices) (prices : LeafPrices) (p : Problem) (g : Region) (k v : ℕ) → length listed ≤ most
    → length rows ≤ most_rows → AreNamed (record { sets = listed; rows = rows }) own prices → AreListed listed own.sets → AreRowsListed rows (bare own.rows)
    → IsLeafValueAt version_2 p g k (leaf_of_own own) v → IsValueAt (version_of most listed most_rows rows) p g k prices v
named_value zero [] zero [] own prices p g k v few few_rows named known rows_known value =
    rw named.customers ((same_without version_2 p g k own.customers v).0
    (subst (λ (sets : List PricedSet). IsLeafValueAt version_2 p g k (without_rows own.customers sets) v) (none_listed own.sets known)
    (subst (λ (rows : List PricedRow). IsLeafValueAt version_2 p g k (record { customers = own.customers; sets = own.sets; rows = rows }) v) (no_rows_listed own.rows rows_known) value)))
named_value zero (s ∷ listed) most_rows rows own prices p g k v few few_rows named known rows_known value = absurd (omega arith)
named_value most listed zero (s ∷ rows) own prices p g k v few few_rows named known rows_known value = absurd (omega arith)
named_value (suc n) listed zero [] own prices p g k v few few_rows named known rows_known value =
    rw named.customers (same_value p k own.customers own.sets (priced_sets listed prices.sets) [] named.sets listed g v
    (subst (λ (rows : List PricedRow). IsLeafValueAt version_2 p g k (record { customers = own.customers; sets = own.sets; rows = rows }) v) (no_rows_listed own.rows rows_known) value))
named_value zero [] (suc m) rows own prices p g k v few few_rows named known rows_known value = row_value zero [] rows own prices p g k v named value
named_value (suc n) listed (suc m) rows own prices p g k v few few_rows named known rows_known value = row_value (suc n) listed rows own prices p g k v named value

-- ---- the shape of a leaf

pub listed_count : (most : ℕ) (listed : List ListedSet) (most_rows : ℕ) (rows : List SubsetRow) → length listed ≤ most
    → length (listed_sets (version_of most listed most_rows rows)) ≡ length listed
listed_count zero listed zero rows few = omega (arith, few)
listed_count (suc n) listed zero rows few = refl
listed_count zero listed (suc m) rows few = refl
listed_count (suc n) listed (suc m) rows few = refl

pub rows_count : (most : ℕ) (listed : List ListedSet) (most_rows : ℕ) (rows : List SubsetRow) → length rows ≤ most_rows
    → length (listed_rows (version_of most listed most_rows rows)) ≡ length rows
rows_count zero listed zero rows few = omega (arith, few)
rows_count (suc n) listed zero rows few = omega (arith, few)
rows_count zero listed (suc m) rows few = refl
rows_count (suc n) listed (suc m) rows few = refl

sum_is : (listed : List ListedSet) (prices : List SetPrice) → price_sum (priced_sets listed prices) ≡ set_prices_sum prices
sum_is listed [] = refl
sum_is listed (m ∷ prices) =
    let s = slice_index_or listed (m.0 - 1) no_set in
    let head : PricedSet = record { members = s.members; need = s.need; price = m.1 } in
    omega (arith, sum_by-cons (λ (t : PricedSet). t.price) head (priced_sets listed prices), sum_by-cons (λ (n : SetPrice). n.1) m prices, sum_is listed prices)

row_sum_is : (listed : List SubsetRow) (prices : List RowPrice) → row_price_sum (priced_rows listed prices) ≡ row_prices_sum prices
row_sum_is listed [] = refl
row_sum_is listed (q ∷ prices) =
    let head : PricedRow = record { row = slice_index_or listed (q.0 - 1) no_row; price = q.1 } in
    omega (arith, sum_by-cons (λ (t : PricedRow). t.price) head (priced_rows listed prices), sum_by-cons (λ (n : RowPrice). n.1) q prices, row_sum_is listed prices)

-- what the named rows charge together
rows_charge : (listed : List SubsetRow) (prices : List RowPrice) (rows : List PricedRow) → priced_rows listed prices ≡ rows → row_price_sum rows ≡ row_prices_sum prices
rows_charge listed prices rows are = rw (← are) (row_sum_is listed prices)

some_rows : (listed : List SubsetRow) (prices : List RowPrice) → AllByRecursion (λ s. 1 ≤ s.price) (priced_rows listed prices) → AllByRecursion (λ q. 1 ≤ q.1) prices
some_rows listed [] h = tt
some_rows listed (q ∷ prices) h = (h.0, some_rows listed prices h.1)

as_many : (listed : List SubsetRow) (prices : List RowPrice) → length (priced_rows listed prices) ≡ length prices
as_many listed [] = refl
as_many listed (q ∷ prices) = omega (arith, as_many listed prices)

pub named_rows : (n : ℕ) (listed : Lists) (own : OwnPrices) (prices : LeafPrices) → AreNamed listed own prices → ArePricedRows n own.rows → length own.rows ≤ MOST_ROW_PRICES
    → AreRowPrices (length listed.rows) prices.rows
named_rows n listed own prices named are few =
    let count : length own.rows ≡ length prices.rows = rw named.rows at (as_many listed.rows prices.rows) in
    record {
      numbers = named.row_numbers;
      some = some_rows listed.rows prices.rows (rw named.rows are.some);
      few = omega (arith, few, count);
    }

some_is : (listed : List ListedSet) (prices : List SetPrice) → AllByRecursion (λ s. 1 ≤ s.price) (priced_sets listed prices) → AllByRecursion (λ m. 1 ≤ m.1) prices
some_is listed [] h = tt
some_is listed (m ∷ prices) h = (h.0, some_is listed prices h.1)

pub named_prices : (p : Problem) (listed : Lists) (own : OwnPrices) (prices : LeafPrices) → AreNamed listed own prices → ArePriced p own.sets
    → AllByRecursion (IsWithinAll own.sets own.rows) own.customers → AreSetPrices (length listed.sets) prices
named_prices p listed own prices named are within = record {
  numbers = named.numbers;
  some = some_is listed.sets prices.sets (recursion_from_All (λ (s : PricedSet). 1 ≤ s.price) (priced_sets listed.sets prices.sets)
      (All-permutation (λ (s : PricedSet). 1 ≤ s.price) own.sets (priced_sets listed.sets prices.sets) named.sets (All-from_recursion (λ (s : PricedSet). 1 ≤ s.price) own.sets are.some)));
  within = rw named.customers (weaker (IsWithinAll own.sets own.rows) (λ z. (set_prices_sum prices.sets + row_prices_sum prices.rows) + nat_abs z ≤ MOST_PRICE)
      (λ z h. omega (arith, h, rows_charge listed.rows prices.rows own.rows named.rows, sum_is listed.sets prices.sets, sum_by-IsPermutation (λ (s : PricedSet). s.price) own.sets (priced_sets listed.sets prices.sets) named.sets))
      own.customers within);
}

pub within_price : (sets : List PricedSet) (rows : List PricedRow) (prices : List ℤ) → AllByRecursion (IsWithinAll sets rows) prices → AllByRecursion IsPrice prices
within_price sets rows prices h = weaker (IsWithinAll sets rows) IsPrice (λ z k. omega (arith, k)) prices h

-- ---- what sets need

pub true_needs : (p : Problem) (sets : List PricedSet) → ArePriced p sets → AllByRecursion (λ s. IsTrueNeed p s.members s.need) sets
true_needs p sets are = weaker _ (λ s. IsTrueNeed p s.members s.need) (λ s may. record { set = may.listed.customers; needed = may.needed }) sets are.listed
