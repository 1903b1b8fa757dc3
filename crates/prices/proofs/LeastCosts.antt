-- The least reduced cost: how far it may be from 0, and the route that a step goes by. At a region that allows fewer arcs it stays where its route is allowed there.
use Rattle.std.proofs.Common.{refl, Bool, true, false, cond, ℕ, zero, suc, ◌+◌, ◌-◌, ◌*◌, ◌≤◌, List, [], ◌∷◌, length, inl, inr, arith, subst, sym, ◌≡◌, ◌∙◌}
use Rattle.std.specs.Prelude.{ℤ, pos, negsuc, ◌+ℤ◌, ◌-ℤ◌, ◌≤ℤ◌, nat_abs, Option, Some, None, MatchOption, slice_index_or}
use Rattle.std.specs.List.{AllByRecursion, sum_by}
use Rattle.std.proofs.lemmas.Int.{ints}
use Rattle.std.proofs.lemmas.List.Sums.{sum_by-cons}
use Rattle.std.proofs.lemmas.Nat.{mul-le}
use Rattle.solomon_reader.specs.declared.row.Row.{Row}
use Rattle.solomon_reader.specs.Distance.{distance}
use Rattle.solomon_reader.specs.Problem.{Problem, customer_count, IsCustomer, demand, ready, service}
use Rattle.solomon_reader.specs.Layout.{IsWithinLimits, AreRows, IsCustomerRow}
use Rattle.solomon_reader.specs.Plan.{IsFitting, Walks, arcs_from, load_of, route_cost, arcs}
use Rattle.solomon_reader.specs.Region.{Region, IsAllowed}
use Rattle.solomon_reader.specs.Relaxed.{IsRelaxed, price_of, int_sum_by}
use Rattle.solomon_reader.specs.CustomerSets.{IsCustomerSet, entries, enters, holds}
use Rattle.solomon_reader.specs.SetPrices.{PricedSet, paid_for_entries, price_sum, listed_of}
use Rattle.solomon_reader.specs.SubsetRows.{SubsetRow, PricedRow, in_row, charges, visits, paid_for_charges, row_price_sum}
use Rattle.solomon_reader.specs.PricedLeaf.{PricedLeaf, IsLeastAt, IsLeastOrZeroAt, reduced_cost_at}
use Rattle.solomon_reader.specs.SetLaws.{depot_outside, entries_from, entries_more, entries_end, entries_is}
use Rattle.solomon_reader.specs.RowLaws.{charges_are_half}
use Rattle.solomon_reader.specs.SumLaws.{up, down}
use Rattle.solomon_reader.specs.declared.limits.TheConstants.{MOST_PRICE}
use Rattle.solomon_reader.specs.CertificateText.{IsPrice}
use Rattle.solomon_reader.specs.AmongLaws.{weaker}
use Rattle.labelling.specs.declared.least_cost.Least.{Least}
use Rattle.labelling.specs.Answer.{HasLeastValueAt, HasItsRouteAt}
use Rattle.priced_sets.specs.Sets.{ArePriced, MayBeListed}
use Rattle.prices.specs.ValuedPrices.{ValuedPrices, or_zero, IsValued}
use Rattle.prices.specs.Narrowing.{IsNarrower, StaysLeast}
use Rattle.solomon_reader.proofs.Grains.{price_small}
use Rattle.prices.proofs.Values.{all_at, abs_low, abs_high, abs_within}

some_demand : (rows : List Row) (i : ℕ) (d : Row) → AreRows rows → 1 ≤ i → i ≤ length rows - 1 → 1 ≤ (slice_index_or rows i d).demand
some_demand [] i d rows low high = absurd rows
some_demand (depot ∷ customers) zero d rows low high = absurd (omega arith)
some_demand (depot ∷ customers) (suc k) d rows low high = (all_at IsCustomerRow customers k d rows.3 (omega arith)).1

-- a vehicle spends at least as much time as its way costs
walk_costs : (p : Problem) (i t : ℕ) (r bs : List ℕ) (finish : ℕ) → Walks p i t r bs finish → t + sum_by (λ a. distance p a.0 a.1) (arcs_from i r) ≤ finish
walk_costs p i t [] [] finish walks = omega (arith, walks)
walk_costs p i t [] (b ∷ bs) finish walks = absurd walks
walk_costs p i t (j ∷ r) [] finish walks = absurd walks
walk_costs p i t (j ∷ r) (b ∷ bs) finish walks =
    omega (arith, walks.0, walk_costs p j (b + service p j) r bs finish walks.2, sum_by-cons (λ a. distance p a.0 a.1) (i, j) (arcs_from j r))

module _ (p : Problem) (limits : IsWithinLimits p) where
  length_below_load : (r : List ℕ) → AllByRecursion (IsCustomer p) r → length r ≤ load_of p r
  length_below_load [] known = omega arith
  length_below_load (i ∷ r) known =
      let some : 1 ≤ demand p i = some_demand p.rows i _ limits.rows known.0.0 known.0.1 in
      omega (arith, sum_by-cons (demand p) i r, length_below_load r known.1)

  short : (r : List ℕ) → IsFitting p r → length r ≤ 10000
  short r fitting = omega (arith, length_below_load r fitting.known, fitting.load, limits.capacity.1)

  closes : (rows : List Row) (d : Row) → AreRows rows → (slice_index_or rows 0 d).due ≤ 1000000
  closes [] d rows = absurd rows
  closes (depot ∷ customers) d rows = rows.0.0.due

  cheap : (r : List ℕ) → IsFitting p r → route_cost p r ≤ 10000000
  cheap r fitting =
      let walk = fitting.walk in
      let last = closes p.rows (record { x = 0; y = 0; demand = 0; ready = 0; due = 0; service = 0 }) limits.rows in
      omega (arith, walk_costs p 0 (ready p 0) r walk.1.times walk.0 walk.1.walks, walk.1.closing, last)

-- ---- what entries are paid

one_step : (b : Bool) (n : ℕ) → n ≡ cond b 1 0 → n ≤ 1
one_step true n e = omega (arith, e)
one_step false n e = omega (arith, e)

entries_few : (s : List ℕ) (i : ℕ) (r : List ℕ) → holds s 0 ≡ false → entries_from s i r ≤ length r
entries_few s i [] outside =
    let out : entries_from s i [] ≡ 0 = rw (entries_end s i, outside) refl in
    omega (arith, out)
entries_few s i (j ∷ r) outside = omega (arith, entries_more s i j r, one_step (enters s (i, j)) (cond (enters s (i, j)) 1 0) refl, entries_few s j r outside)

paid_low : (n : ℕ) (sets : List PricedSet) (r : List ℕ) → AllByRecursion (λ s. IsCustomerSet n s.members) sets → paid_for_entries sets r ≤ price_sum sets * length r
paid_low n [] r are = omega arith
paid_low n (s ∷ sets) r are =
    let sum : price_sum (s ∷ sets) * length r ≡ s.price * length r + price_sum sets * length r = rw (sum_by-cons (λ (t : PricedSet). t.price) s sets) (omega arith) in
    let few : entries s.members r ≤ length r = rw (entries_is s.members r) (entries_few s.members 0 r (depot_outside n s.members are.0)) in
    omega (
      arith,
      sum,
      sum_by-cons (λ (t : PricedSet). t.price * entries t.members r) s sets,
      mul-le s.price (entries s.members r) s.price (length r) (omega arith) few,
      paid_low n sets r are.1,
    )

paid_within : (n : ℕ) (sets : List PricedSet) (r : List ℕ) → AllByRecursion (λ s. IsCustomerSet n s.members) sets → price_sum sets ≤ 1000000000000
    → paid_for_entries sets r ≤ 1000000000000 * length r
paid_within n sets r are within = omega (arith, paid_low n sets r are, mul-le (price_sum sets) (length r) 1000000000000 (length r) within (omega arith))

-- ---- what rows charge

one_visit : (b : Bool) → cond b 1 0 ≤ 1
one_visit true = omega arith
one_visit false = omega arith

visits_few : (s : SubsetRow) (r : List ℕ) → visits s r ≤ length r
visits_few s [] = omega arith
visits_few s (j ∷ r) = omega (arith, visits_few s r, one_visit (in_row s j), sum_by-cons (λ i. cond (in_row s i) 1 0) j r)

-- twice what a route pays for its charges
charged_low : (p : Problem) (k : ℕ) (rows : List PricedRow) (r : List ℕ) → 2 * paid_for_charges p k rows r ≤ row_price_sum rows * length r
charged_low p k [] r = omega arith
charged_low p k (s ∷ rows) r =
    let sum : row_price_sum (s ∷ rows) * length r ≡ s.price * length r + row_price_sum rows * length r = rw (sum_by-cons (λ (t : PricedRow). t.price) s rows) (omega arith) in
    let few : 2 * charges p k s.row r ≤ length r = omega (arith, charges_are_half p k s.row r, visits_few s.row r) in
    let twice : 2 * (s.price * charges p k s.row r) ≡ s.price * (2 * charges p k s.row r) = omega arith in
    omega (
      arith,
      sum,
      twice,
      sum_by-cons (λ (t : PricedRow). t.price * charges p k t.row r) s rows,
      mul-le s.price (2 * charges p k s.row r) s.price (length r) (omega arith) few,
      charged_low p k rows r,
    )

charged_within : (p : Problem) (k : ℕ) (rows : List PricedRow) (r : List ℕ) → row_price_sum rows ≤ 1000000000000 → 2 * paid_for_charges p k rows r ≤ 1000000000000 * length r
charged_within p k rows r within = omega (arith, charged_low p k rows r, mul-le (row_price_sum rows) (length r) 1000000000000 (length r) within (omega arith))

-- sets that may have a price are sets of customers
sets_known : (p : Problem) (sets : List PricedSet) → AllByRecursion (λ s. MayBeListed p (listed_of s)) sets → AllByRecursion (λ s. IsCustomerSet (customer_count p) s.members) sets
sets_known p [] are = tt
sets_known p (s ∷ sets) are = (are.0.listed.customers, sets_known p sets are.1)

module _ (prices : List ℤ) (priced : AllByRecursion IsPrice prices) where
  prices_high : (r : List ℕ) → int_sum_by (price_of prices) r ≤ℤ pos (1000000000000 * length r)
  prices_high [] = omega (arith, ints)
  prices_high (i ∷ r) =
      let high = abs_high (price_of prices i) 1000000000000 (price_small prices (i - 1) priced) in
      let rest = prices_high r in
      omega (arith, ints)

  prices_low : (r : List ℕ) → (pos 0 -ℤ pos (1000000000000 * length r)) ≤ℤ int_sum_by (price_of prices) r
  prices_low [] = omega (arith, ints)
  prices_low (i ∷ r) =
      let low = abs_low (price_of prices i) 1000000000000 (price_small prices (i - 1) priced) in
      let rest = prices_low r in
      omega (arith, ints)

  near_zero : (cost n paid charged : ℕ) (sum : ℤ) → (pos 0 -ℤ pos (1000000000000 * n)) ≤ℤ sum → sum ≤ℤ pos (1000000000000 * n) → n ≤ 10000 → cost ≤ 10000000
      → paid ≤ 1000000000000 * n → 2 * charged ≤ 1000000000000 * n → nat_abs (((pos (1000 * cost) -ℤ sum) -ℤ pos paid) +ℤ pos charged) ≤ 20000000000000000
  near_zero cost n paid charged sum low high few small bound half =
      abs_within (((pos (1000 * cost) -ℤ sum) -ℤ pos paid) +ℤ pos charged) 20000000000000000 (omega (arith, ints)) (omega (arith, ints))

module _ (leaf : PricedLeaf) (priced : AllByRecursion IsPrice leaf.customers) (p : Problem) (are : ArePriced p leaf.sets) (low : row_price_sum leaf.rows ≤ MOST_PRICE) (limits : IsWithinLimits p) where
  reduced_small : (k : ℕ) (r : List ℕ) → IsFitting p r → nat_abs (reduced_cost_at p k leaf r) ≤ 20000000000000000
  reduced_small k r fitting =
      near_zero leaf.customers priced (route_cost p r) (length r) (paid_for_entries leaf.sets r) (paid_for_charges p k leaf.rows r) (int_sum_by (price_of leaf.customers) r)
      (prices_low leaf.customers priced r) (prices_high leaf.customers priced r) (short p limits r fitting) (cheap p limits r fitting)
      (paid_within (customer_count p) leaf.sets r (sets_known p leaf.sets are.listed) are.within) (charged_within p k leaf.rows r low)

  least_small : (g : Region) (k : ℕ) (least : Option ℤ)
      → MatchOption least ((r : List ℕ) → ¬ IsRelaxed p g k r) (λ m. IsLeastAt p g k leaf m) → nat_abs (or_zero least) ≤ 20000000000000000
  least_small g k None is = omega arith
  least_small g k (Some m) is =
      let P : ℤ → Type 0 = λ z. nat_abs z ≤ 20000000000000000 in
      subst P is.reached.2 (reduced_small k is.reached.0 is.reached.1.fitting)

up-le : (z : ℤ) → up z ≤ nat_abs z
up-le (pos n) = omega arith
up-le (negsuc n) = omega arith

down-le : (z : ℤ) → down z ≤ nat_abs z
down-le (pos n) = omega arith
down-le (negsuc n) = omega arith

module _ (leaf : PricedLeaf) (priced : AllByRecursion IsPrice leaf.customers) (p : Problem) (are : ArePriced p leaf.sets) (low : row_price_sum leaf.rows ≤ MOST_PRICE) (limits : IsWithinLimits p)
    (g : Region) (k : ℕ) (least : Option ℤ) (is : MatchOption least ((r : List ℕ) → ¬ IsRelaxed p g k r) (λ m. IsLeastAt p g k leaf m)) where
  pub least_above : up (or_zero least) ≤ 20000000000000000
  least_above = omega (arith, up-le (or_zero least), least_small leaf priced p are low limits g k least is)

  pub least_below : down (or_zero least) ≤ 20000000000000000
  least_below = omega (arith, down-le (or_zero least), least_small leaf priced p are low limits g k least is)

pub least_or_zero : (p : Problem) (g : Region) (k : ℕ) (leaf : PricedLeaf) (least : Option ℤ)
    → MatchOption least ((r : List ℕ) → ¬ IsRelaxed p g k r) (λ m. IsLeastAt p g k leaf m) → IsLeastOrZeroAt p g k leaf (or_zero least)
least_or_zero p g k leaf None is = inr (is, refl)
least_or_zero p g k leaf (Some m) is = inl is

-- ---- At a region that allows fewer arcs the least reduced cost stays where its route is allowed there.

equal_leasts : (m n : ℤ) → m ≤ℤ n → n ≤ℤ m → m ≡ n
equal_leasts m n h k = omega (arith, ints)

module _ (p : Problem) (g h : Region) (k : ℕ) (leaf : PricedLeaf) (narrower : IsNarrower g h) where
  -- a relaxed route of the narrower region is one of the wider
  wider : (r : List ℕ) → IsRelaxed p g k r → IsRelaxed p h k r
  wider r is = record {
    fitting = is.fitting;
    allowed = weaker (IsAllowed g) (IsAllowed h) narrower.allowed (arcs r) is.allowed;
    forgets = is.forgets;
  }

  -- a relaxed route of the wider region that the narrower one allows
  stays : (r : List ℕ) → IsRelaxed p h k r → AllByRecursion (IsAllowed g) (arcs r) → IsRelaxed p g k r
  stays r is allowed = record { fitting = is.fitting; allowed = allowed; forgets = is.forgets }

  pub least_stays : (value : Option ℤ) (route : List ℕ) → MatchOption value (Unit {0}) (λ m. AllByRecursion (IsAllowed g) (arcs route))
      → MatchOption value ((r : List ℕ) → ¬ IsRelaxed p h k r) (λ m. IsLeastAt p h k leaf m)
      → MatchOption value (route ≡ []) (λ m. IsRelaxed p h k route × (reduced_cost_at p k leaf route ≡ m))
      → MatchOption value ((r : List ℕ) → ¬ IsRelaxed p g k r) (λ m. IsLeastAt p g k leaf m)
  least_stays None route allowed none has = λ r is. none r (wider r is)
  least_stays (Some m) route allowed is has = record {
    reached = (route, stays route has.0 allowed, has.1);
    least = λ r relaxed. is.least r (wider r relaxed);
  }

  pub route_stays : (value : Option ℤ) (route : List ℕ) → MatchOption value (Unit {0}) (λ m. AllByRecursion (IsAllowed g) (arcs route))
      → MatchOption value (route ≡ []) (λ m. IsRelaxed p h k route × (reduced_cost_at p k leaf route ≡ m))
      → MatchOption value (route ≡ []) (λ m. IsRelaxed p g k route × (reduced_cost_at p k leaf route ≡ m))
  route_stays None route allowed has = has
  route_stays (Some m) route allowed has = (stays route has.0 allowed, has.1)

  same_least : (value : Option ℤ) (m : ℤ)
      → MatchOption value ((r : List ℕ) → ¬ IsRelaxed p h k r) (λ l. IsLeastAt p h k leaf l)
      → MatchOption value ((r : List ℕ) → ¬ IsRelaxed p g k r) (λ l. IsLeastAt p g k leaf l)
      → IsLeastOrZeroAt p h k leaf m → IsLeastOrZeroAt p g k leaf m
  same_least None m none still (inl is) = absurd (none is.reached.0 is.reached.1)
  same_least None m none still (inr nought) = inr (still, nought.1)
  same_least (Some l) m is still (inl other) =
      let below : l ≤ℤ m = subst (λ (z : ℤ). l ≤ℤ z) other.reached.2 (is.least other.reached.0 other.reached.1) in
      let above : m ≤ℤ l = subst (λ (z : ℤ). m ≤ℤ z) is.reached.2 (other.least is.reached.0 is.reached.1) in
      inl (subst (λ (z : ℤ). IsLeastAt p g k leaf z) (equal_leasts l m below above) still)
  same_least (Some l) m is still (inr nought) = absurd (nought.0 is.reached.0 is.reached.1)

-- a copy of a least reduced cost is one, too
pub copied_least : (p : Problem) (g : Region) (k : ℕ) (leaf : PricedLeaf) (least found : Least) → found.value ≡ least.value → found.route.items ≡ least.route.items
    → HasLeastValueAt p g k leaf least → HasItsRouteAt p g k leaf least
    → HasLeastValueAt p g k leaf found × HasItsRouteAt p g k leaf found
copied_least p g k leaf least found same_value same_route is_least has_route =
    let Route : Option ℤ → List ℕ → Type 0 =
    λ value route. MatchOption value (route ≡ []) (λ m. IsRelaxed p g k route × (reduced_cost_at p k leaf route ≡ m)) in (
      subst (λ (value : Option ℤ). MatchOption value ((r : List ℕ) → ¬ IsRelaxed p g k r) (λ m. IsLeastAt p g k leaf m)) (sym same_value) is_least,
      subst (λ (value : Option ℤ). Route value found.route.items) (sym same_value) (subst (λ (route : List ℕ). Route least.value route) (sym same_route) has_route),
    )

-- a leaf with its value
abbrev pub valued : Problem → Region → ℕ → PricedLeaf → ℕ → ValuedPrices
valued p g k leaf v = record { problem = p; region = g; neighbours = k; prices = leaf.customers; sets = leaf.sets; rows = leaf.rows; value = v }

-- so prices at the wider region are prices with the same value at the narrower one
pub narrowed_pricing : (p : Problem) (g h : Region) (k : ℕ) (leaf : PricedLeaf) (v : ℕ) (least found : Least) → IsNarrower g h → StaysLeast g least
    → found.value ≡ least.value → found.route.items ≡ least.route.items
    → IsValued (valued p h k leaf v)
    → HasLeastValueAt p h k leaf least → HasItsRouteAt p h k leaf least
    → IsValued (valued p g k leaf v) × HasLeastValueAt p g k leaf found × HasItsRouteAt p g k leaf found
narrowed_pricing p g h k leaf v least found narrower allowed same_value same_route is is_least has_route =
    let still = least_stays p g h k leaf narrower least.value least.route.items allowed is_least has_route in
    let routed = route_stays p g h k leaf narrower least.value least.route.items allowed has_route in
    let pricing : IsValued (valued p g k leaf v) = record {
      size = narrower.size ∙ is.size;
      few = is.few;
      sets_are = is.sets_are;
      few_rows = is.few_rows;
      rows_are = is.rows_are;
      priced = is.priced;
      valued = record {
        priced = is.valued.priced;
        least = is.valued.least;
        is_least = same_least p g h k leaf narrower least.value is.valued.least is_least still is.valued.is_least;
        rounded = is.valued.rounded;
      };
      bound = is.bound;
    } in
    let copied = copied_least p g k leaf least found same_value same_route still routed in (pricing, copied.0, copied.1)
