-- The tests of sets, and of prices of sets and of rows, tell what they are to tell.
use Rattle.std.proofs.Common.{◌≡◌, refl, ℕ, ◌+◌, ◌<◌, ◌≤◌, true, List, [], ◌∷◌, length, map, arith}
use Rattle.std.specs.Prelude.{nat_lt, nat_le, ◌&&◌, ℤ, nat_abs}
use Rattle.std.specs.List.{AllByRecursion, list_all}
use Rattle.std.proofs.lemmas.List.Sums.{sum_by-cons}
use Rattle.std.proofs.lemmas.Bool.Decides.{nat_tests}
use Rattle.tenths.proofs.Digits.{both}
use Rattle.solomon_reader.specs.declared.limits.TheConstants.{MOST_PRICE, MOST_NEED, MOST_SETS, MOST_ROW_PRICES}
use Rattle.solomon_reader.specs.CustomerSets.{IsRisingFrom, IsCustomerSet}
use Rattle.solomon_reader.specs.SetPrices.{ListedSet, SetPrice}
use Rattle.solomon_reader.specs.Bound.{LeafPrices, of_customers}
use Rattle.solomon_reader.specs.CertificateText.{IsListedSet, set_prices_sum, row_prices_sum, AreSetPrices, AreRowPrices}
use Rattle.certificate.specs.Reading.{is_rising, are_listed, are_small, are_prices}
use Rattle.certificate.specs.Shape.{is_listed_set, are_sets, are_row_prices}

pub le_is : (i j : ℕ) → nat_le i j ≡ true → i ≤ j
le_is i j h = grind (arith, nat_tests)

pub le_again : (i j : ℕ) → i ≤ j → nat_le i j ≡ true
le_again i j h = grind (arith, nat_tests)

pub lt_is : (i j : ℕ) → nat_lt i j ≡ true → i < j
lt_is i j h = grind (arith, nat_tests)

pub lt_again : (i j : ℕ) → i < j → nat_lt i j ≡ true
lt_again i j h = grind (arith, nat_tests)

-- ---- numbers that rise

rising_is : (low most : ℕ) (s : List ℕ) → is_rising low most s ≡ true → IsRisingFrom low s × AllByRecursion (λ i. i ≤ most) s
rising_is low most [] h = (tt, tt)
rising_is low most (i ∷ s) h =
    let p = both (nat_lt low i && nat_le i most) (is_rising i most s) h in
    let q = both (nat_lt low i) (nat_le i most) p.0 in
    let rest = rising_is i most s p.1 in
    ((lt_is low i q.0, rest.0), (le_is i most q.1, rest.1))

rising_again : (low most : ℕ) (s : List ℕ) → IsRisingFrom low s → AllByRecursion (λ i. i ≤ most) s → is_rising low most s ≡ true
rising_again low most [] p q = refl
rising_again low most (i ∷ s) p q = rw (lt_again low i p.0, le_again i most q.0, rising_again i most s p.1 q.1) refl

pub customers_are : (n : ℕ) (s : List ℕ) → is_rising 0 n s ≡ true → IsCustomerSet n s
customers_are n s h = let p = rising_is 0 n s h in record { rising = p.0; known = p.1 }

pub customers_again : (n : ℕ) (s : List ℕ) → IsCustomerSet n s → is_rising 0 n s ≡ true
customers_again n s h = rising_again 0 n s h.rising h.known

-- ---- a listed set

pub listed_set_is : (n : ℕ) (s : ListedSet) → is_listed_set n s ≡ true → IsListedSet n s
listed_set_is n s h =
    let a = both (nat_le 1 s.need) _ h in
    let b = both (nat_le s.need MOST_NEED) _ a.1 in
    let c = both (nat_le 2 (length s.members)) (is_rising 0 n s.members) b.1 in
    record { need = (le_is 1 s.need a.0, le_is s.need MOST_NEED b.0); some = le_is 2 (length s.members) c.0; customers = customers_are n s.members c.1 }

pub listed_set_again : (n : ℕ) (s : ListedSet) → IsListedSet n s → is_listed_set n s ≡ true
listed_set_again n s h = rw (le_again 1 s.need h.need.0, le_again s.need MOST_NEED h.need.1, le_again 2 (length s.members) h.some, customers_again n s.members h.customers) refl

listed_are : (n : ℕ) (sets : List ListedSet) → list_all (is_listed_set n) sets ≡ true → AllByRecursion (IsListedSet n) sets
listed_are n [] h = tt
listed_are n (s ∷ sets) h = let p = both (is_listed_set n s) (list_all (is_listed_set n) sets) h in (listed_set_is n s p.0, listed_are n sets p.1)

listed_again : (n : ℕ) (sets : List ListedSet) → AllByRecursion (IsListedSet n) sets → list_all (is_listed_set n) sets ≡ true
listed_again n [] h = refl
listed_again n (s ∷ sets) h = rw (listed_set_again n s h.0, listed_again n sets h.1) refl

pub sets_are : (n : ℕ) (sets : List ListedSet) → are_sets n sets ≡ true → (length sets ≤ MOST_SETS) × AllByRecursion (IsListedSet n) sets
sets_are n sets h = let p = both (nat_le (length sets) MOST_SETS) (list_all (is_listed_set n) sets) h in (le_is (length sets) MOST_SETS p.0, listed_are n sets p.1)

pub sets_again : (n : ℕ) (sets : List ListedSet) → length sets ≤ MOST_SETS → AllByRecursion (IsListedSet n) sets → are_sets n sets ≡ true
sets_again n sets few h = rw (le_again (length sets) MOST_SETS few, listed_again n sets h) refl

-- ---- prices of sets and of rows

smalls_some : (ms : List SetPrice) → are_small ms ≡ true → AllByRecursion (λ m. 1 ≤ m.1) ms
smalls_some [] h = tt
smalls_some (m ∷ ms) h =
    let p = both (nat_le 1 m.1 && nat_le m.1 MOST_PRICE) (are_small ms) h in
    let q = both (nat_le 1 m.1) (nat_le m.1 MOST_PRICE) p.0 in
    (le_is 1 m.1 q.0, smalls_some ms p.1)

prices_within : (sum : ℕ) (zs : List ℤ) → list_all (λ z. nat_le (sum + nat_abs z) MOST_PRICE) zs ≡ true → AllByRecursion (λ z. sum + nat_abs z ≤ MOST_PRICE) zs
prices_within sum [] h = tt
prices_within sum (z ∷ zs) h =
    let p = both (nat_le (sum + nat_abs z) MOST_PRICE) (list_all (λ z. nat_le (sum + nat_abs z) MOST_PRICE) zs) h in
    (le_is (sum + nat_abs z) MOST_PRICE p.0, prices_within sum zs p.1)

within_again : (sum : ℕ) (zs : List ℤ) → AllByRecursion (λ z. sum + nat_abs z ≤ MOST_PRICE) zs → list_all (λ z. nat_le (sum + nat_abs z) MOST_PRICE) zs ≡ true
within_again sum [] h = refl
within_again sum (z ∷ zs) h = rw (le_again (sum + nat_abs z) MOST_PRICE h.0, within_again sum zs h.1) refl

-- a smaller sum is within the range, too
less_within : (less sum : ℕ) (zs : List ℤ) → less ≤ sum → AllByRecursion (λ z. sum + nat_abs z ≤ MOST_PRICE) zs → AllByRecursion (λ z. less + nat_abs z ≤ MOST_PRICE) zs
less_within less sum [] le h = tt
less_within less sum (z ∷ zs) le h = (omega (arith, h.0, le), less_within less sum zs le h.1)

-- each price is within what all are
pub none_above : (most : ℕ) (ms : List SetPrice) → set_prices_sum ms ≤ most → AllByRecursion (λ m. m.1 ≤ most) ms
none_above most [] h = tt
none_above most (m ∷ ms) h =
    let sum : set_prices_sum (m ∷ ms) ≡ m.1 + set_prices_sum ms = sum_by-cons (λ m. m.1) m ms in
    (omega (arith, h, sum), none_above most ms (omega (arith, h, sum)))

smalls_again : (ms : List SetPrice) → AllByRecursion (λ m. 1 ≤ m.1) ms → AllByRecursion (λ m. m.1 ≤ MOST_PRICE) ms → are_small ms ≡ true
smalls_again [] p q = refl
smalls_again (m ∷ ms) p q = rw (le_again 1 m.1 p.0, le_again m.1 MOST_PRICE q.0, smalls_again ms p.1 q.1) refl

-- beside a customer's price a sum is in range
sum_within : (sum : ℕ) (zs : List ℤ) → 1 ≤ length zs → AllByRecursion (λ z. sum + nat_abs z ≤ MOST_PRICE) zs → sum ≤ MOST_PRICE
sum_within sum [] e a = absurd (omega (arith, e))
sum_within sum (z ∷ zs) e a = omega (arith, a.0)

-- what sets and rows cost together at a leaf
abbrev leaf_sum : LeafPrices → ℕ
leaf_sum l = set_prices_sum l.sets + row_prices_sum l.rows

-- each price of sets and of rows is in range
pub set_prices_small : (sets : ℕ) (l : LeafPrices) → 1 ≤ length l.customers → AreSetPrices sets l → AllByRecursion (λ m. m.1 ≤ MOST_PRICE) l.sets
set_prices_small sets l some h =
    let sum : leaf_sum l ≤ MOST_PRICE = sum_within (leaf_sum l) l.customers some h.within in
    none_above MOST_PRICE l.sets (part (set_prices_sum l.sets) (row_prices_sum l.rows) sum)
  where
    part : (s r : ℕ) → s + r ≤ MOST_PRICE → s ≤ MOST_PRICE
    part s r h = omega (arith, h)

pub row_prices_small : (sets : ℕ) (l : LeafPrices) → 1 ≤ length l.customers → AreSetPrices sets l → AllByRecursion (λ q. q.1 ≤ MOST_PRICE) l.rows
row_prices_small sets l some h =
    let sum : leaf_sum l ≤ MOST_PRICE = sum_within (leaf_sum l) l.customers some h.within in
    none_above MOST_PRICE l.rows (part (set_prices_sum l.sets) (row_prices_sum l.rows) sum)
  where
    part : (s r : ℕ) → s + r ≤ MOST_PRICE → r ≤ MOST_PRICE
    part s r h = omega (arith, h)

-- the tests of all prices of sets and of rows at a leaf
pub record AreTested (sets rows : ℕ) (l : LeafPrices) : Type 0 where
  pub sets_listed : are_listed sets l.sets ≡ true
  pub sets_priced : are_prices 0 l.customers l.sets ≡ true
  pub rows_tested : are_row_prices rows (set_prices_sum l.sets) l.customers l.rows ≡ true

pub tests_are : (sets rows : ℕ) (l : LeafPrices) → AreTested sets rows l → AreSetPrices sets l × AreRowPrices rows l.rows
tests_are sets rows l t =
    let zs = l.customers in
    let s = set_prices_sum l.sets in
    let a = both (are_small l.sets) (list_all (λ z. nat_le ((0 + s) + nat_abs z) MOST_PRICE) zs) t.sets_priced in
    let b = both (are_listed rows l.rows) (nat_le (length l.rows) MOST_ROW_PRICES && are_prices s zs l.rows) t.rows_tested in
    let c = both (nat_le (length l.rows) MOST_ROW_PRICES) (are_prices s zs l.rows) b.1 in
    let d = both (are_small l.rows) (list_all (λ z. nat_le ((s + set_prices_sum l.rows) + nat_abs z) MOST_PRICE) zs) c.1 in (
      record { numbers = customers_are sets (map (λ m. m.0) l.sets) t.sets_listed; some = smalls_some l.sets a.0; within = prices_within (leaf_sum l) zs d.1 },
      record { numbers = customers_are rows (map (λ q. q.0) l.rows) b.0; some = smalls_some l.rows d.0; few = le_is (length l.rows) MOST_ROW_PRICES c.0 },
    )

pub tests_again : (sets rows : ℕ) (l : LeafPrices) → 1 ≤ length l.customers → AreSetPrices sets l × AreRowPrices rows l.rows → AreTested sets rows l
tests_again sets rows l some h =
    let zs = l.customers in
    let s = set_prices_sum l.sets in
    let r = row_prices_sum l.rows in
    let alone : list_all (λ z. nat_le ((0 + s) + nat_abs z) MOST_PRICE) zs ≡ true = within_again (0 + s) zs (less_within (0 + s) (s + r) zs (part s r) h.0.within) in
    let together : list_all (λ z. nat_le ((s + r) + nat_abs z) MOST_PRICE) zs ≡ true = within_again (s + r) zs h.0.within in
    record {
      sets_listed = customers_again sets (map (λ m. m.0) l.sets) h.0.numbers;
      sets_priced = rw (smalls_again l.sets h.0.some (set_prices_small sets l some h.0), alone) refl;
      rows_tested = rw (
        customers_again rows (map (λ q. q.0) l.rows) h.1.numbers,
        le_again (length l.rows) MOST_ROW_PRICES h.1.few,
        smalls_again l.rows h.1.some (row_prices_small sets l some h.0),
        together,
      ) refl;
    }
  where
    part : (s r : ℕ) → 0 + s ≤ s + r
    part s r = omega arith

-- where no row has a price the tests of sets are enough
pub without_rows : (sets : ℕ) (zs : List ℤ) (ms : List SetPrice) → are_listed sets ms ≡ true → are_prices 0 zs ms ≡ true → AreTested sets 0 (record { customers = zs; sets = ms; rows = [] })
without_rows sets zs ms p q =
    let s = set_prices_sum ms in
    let a = both (are_small ms) (list_all (λ z. nat_le ((0 + s) + nat_abs z) MOST_PRICE) zs) q in
    let within = less_within (s + 0) (0 + s) zs (swap s) (prices_within (0 + s) zs a.1) in
    record { sets_listed = p; sets_priced = q; rows_tested = within_again (s + 0) zs within }
  where
    swap : (s : ℕ) → s + 0 ≤ 0 + s
    swap s = omega arith

-- where none is listed none has a price
none_priced : (ms : List SetPrice) → IsCustomerSet 0 (map (λ m. m.0) ms) → ms ≡ []
none_priced [] c = refl
none_priced (m ∷ ms) c = absurd (omega (arith, c.rising.0, c.known.0))

pub no_prices : (l : LeafPrices) → AreSetPrices 0 l → l.sets ≡ []
no_prices l h = none_priced l.sets h.numbers

pub no_row_prices : (l : LeafPrices) → AreRowPrices 0 l.rows → l.rows ≡ []
no_row_prices l h = none_priced l.rows h.numbers

-- a leaf where none has a price
pub without_prices : (zs : List ℤ) → AllByRecursion (λ z. nat_abs z ≤ MOST_PRICE) zs → AreSetPrices 0 (of_customers zs) × AreRowPrices 0 []
without_prices zs h = (
  record { numbers = record { rising = tt; known = tt }; some = tt; within = within zs h },
  record { numbers = record { rising = tt; known = tt }; some = tt; few = omega arith },
)
  where
    within : (zs : List ℤ) → AllByRecursion (λ z. nat_abs z ≤ MOST_PRICE) zs → AllByRecursion (λ z. (0 + 0) + nat_abs z ≤ MOST_PRICE) zs
    within [] a = tt
    within (z ∷ zs) a = (omega (arith, a.0), within zs a.1)
