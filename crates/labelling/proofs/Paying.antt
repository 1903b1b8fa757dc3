-- What routes are paid for customers and sets, what rows charge them, and prices beside those of sets and rows.
use Rattle.std.proofs.Common.{◌≡◌, ℕ, List, [], ◌∷◌, arith, sym, subst, ◌∙◌}
use Rattle.std.specs.Prelude.{ℤ, Option, Some, None, MatchOption}
use Rattle.std.specs.List.{AllByRecursion}
use Rattle.std.proofs.lemmas.Int.{ints}
use Rattle.solomon_reader.specs.Problem.{Problem, customer_count}
use Rattle.solomon_reader.specs.Region.{Region}
use Rattle.solomon_reader.specs.Relaxed.{IsRelaxed, IsLeast, reduced_cost}
use Rattle.solomon_reader.specs.CustomerSets.{IsCustomerSet}
use Rattle.solomon_reader.specs.CertificateText.{IsPrice}
use Rattle.solomon_reader.specs.SetPrices.{PricedSet, by_sets, listed_of}
use Rattle.solomon_reader.specs.SubsetRows as shared
use Rattle.solomon_reader.specs.PricedLeaf.{PricedLeaf, without_rows, IsLeastAt, IsLeastBy, reduced_cost_at, charged_cost_by}
use Rattle.solomon_reader.specs.SetDualityLaws.{paid_by_sets}
use Rattle.priced_sets.specs.Sets.{IsWithin, MayBeListed, ArePriced}
use Rattle.row_charges.specs.Rows.{rows_of}
use Rattle.row_charges.specs.declared.priced_row.PricedRow.{PricedRow}
use Rattle.fronts.specs.Fronts.{IsWithinAll}
use Rattle.labelling.specs.PricedRows.{ArePricedRows}
use Rattle.labelling.specs.declared.least_cost.Least.{Least}
use Rattle.labelling.specs.declared.pricing_task.PricingTask.{PricingTask}
use Rattle.labelling.specs.Answer.{HasLeastValue, HasItsRoute, HasLeastValueAt, HasItsRouteAt, IsLeastOf}
use Rattle.labelling.specs.Pricings.{leaf_of, pricing_at}

-- ---- prices

-- a price that is within range together with those of sets and rows is so alone
pub priced_within : (sets : List PricedSet) (rows : List shared.PricedRow) (prices : List ℤ) → AllByRecursion (IsWithinAll sets rows) prices → AllByRecursion IsPrice prices
priced_within sets rows [] within = tt
priced_within sets rows (z ∷ prices) within = (omega (arith, within.0), priced_within sets rows prices within.1)

within_no_rows : (sets : List PricedSet) (prices : List ℤ) → AllByRecursion (IsWithin sets) prices → AllByRecursion (IsWithinAll sets []) prices
within_no_rows sets [] within = tt
within_no_rows sets (z ∷ prices) within = (omega (arith, within.0), within_no_rows sets prices within.1)

-- where there are no rows the range is the same
pub within_alone : (sets : List PricedSet) (rows : List PricedRow) (prices : List ℤ) → rows ≡ [] → AllByRecursion (IsWithin sets) prices
    → AllByRecursion (IsWithinAll sets (rows_of rows)) prices
within_alone sets rows prices none within = rw none (within_no_rows sets prices within)

within_no_sets : (prices : List ℤ) → AllByRecursion IsPrice prices → AllByRecursion (IsWithinAll [] []) prices
within_no_sets [] priced = tt
within_no_sets (z ∷ prices) priced = (omega (arith, priced.0), within_no_sets prices priced.1)

-- so it is where there are no sets either
pub within_none : (sets : List PricedSet) (rows : List PricedRow) (prices : List ℤ) → sets ≡ [] → rows ≡ [] → AllByRecursion IsPrice prices
    → AllByRecursion (IsWithinAll sets (rows_of rows)) prices
within_none sets rows prices no_sets no_rows priced = rw (no_sets, no_rows) (within_no_sets prices priced)

none_priced : (n : ℕ) → ArePricedRows n []
none_priced n = record { listed = tt; in_order = tt; some = tt }

-- no rows may have prices
pub no_rows_priced : (n : ℕ) (rows : List PricedRow) → rows ≡ [] → ArePricedRows n (rows_of rows)
no_rows_priced n rows none = rw none (none_priced n)

-- each is within range, too, where the prices, the sets and the rows are the same
pub within_same : (sets others : List PricedSet) (rows again : List PricedRow) (prices copied : List ℤ) → others ≡ sets → again ≡ rows → copied ≡ prices
    → AllByRecursion (IsWithinAll sets (rows_of rows)) prices → AllByRecursion (IsWithinAll others (rows_of again)) copied
within_same sets others rows again prices copied same_sets same_rows equal within =
    subst (λ (x : List PricedSet). AllByRecursion (IsWithinAll x (rows_of again)) copied) (sym same_sets)
    (subst (λ (y : List PricedRow). AllByRecursion (IsWithinAll sets (rows_of y)) copied) (sym same_rows)
    (subst (λ (z : List ℤ). AllByRecursion (IsWithinAll sets (rows_of rows)) z) (sym equal) within))

-- sets that have a price are sets of customers
pub sets_known : (p : Problem) (sets : List PricedSet) → AllByRecursion (λ s. MayBeListed p (listed_of s)) sets → AllByRecursion (λ s. IsCustomerSet (customer_count p) s.members) sets
sets_known p [] listed = tt
sets_known p (s ∷ sets) listed = (listed.0.listed.customers, sets_known p sets listed.1)

-- ---- answers

module _ (p : Problem) (g : Region) (k : ℕ) (leaf : PricedLeaf) (n : ℕ) (known : AllByRecursion (λ s. IsCustomerSet n s.members) leaf.sets) where
  value_at : (o : Option ℤ) → MatchOption o ((r : List ℕ) → ¬ IsRelaxed p g k r) (λ z. IsLeastBy p g k (by_sets leaf.customers leaf.sets) leaf.rows z)
      → MatchOption o ((r : List ℕ) → ¬ IsRelaxed p g k r) (λ z. IsLeastAt p g k leaf z)
  value_at None none = none
  value_at (Some z) is = record {
    reached = (is.reached.0, is.reached.1, sym (paid_by_sets p k n leaf is.reached.0 known) ∙ is.reached.2);
    least = λ r h. omega (arith, ints, is.least r h, paid_by_sets p k n leaf r known);
  }

  route_at : (o : Option ℤ) (route : List ℕ) → MatchOption o (route ≡ []) (λ z. IsRelaxed p g k route × (charged_cost_by p k (by_sets leaf.customers leaf.sets) leaf.rows route ≡ z))
      → MatchOption o (route ≡ []) (λ z. IsRelaxed p g k route × (reduced_cost_at p k leaf route ≡ z))
  route_at None route none = none
  route_at (Some z) route is = (is.0, sym (paid_by_sets p k n leaf route known) ∙ is.1)

module _ (t : PricingTask) (l : Least) (priced : ArePriced t.sets.problem t.sets.sets) (is : IsLeastOf (pricing_at t) l) where
  pub least_value : HasLeastValueAt t.instance.now t.region t.neighbours (leaf_of t) l
  least_value = value_at t.instance.now t.region t.neighbours (leaf_of t) (customer_count t.sets.problem) (sets_known t.sets.problem t.sets.sets priced.listed) l.value is.value

  pub least_route : HasItsRouteAt t.instance.now t.region t.neighbours (leaf_of t) l
  least_route = route_at t.instance.now t.region t.neighbours (leaf_of t) (customer_count t.sets.problem) (sets_known t.sets.problem t.sets.sets priced.listed) l.value l.route.items is.route

-- ---- answers without sets and rows

module _ (p : Problem) (g : Region) (k : ℕ) (prices : List ℤ) where
  value_without : (o : Option ℤ) → MatchOption o ((r : List ℕ) → ¬ IsRelaxed p g k r) (λ z. IsLeastAt p g k (without_rows prices []) z)
      → MatchOption o ((r : List ℕ) → ¬ IsRelaxed p g k r) (λ z. IsLeast p g k prices z)
  value_without None none = none
  value_without (Some z) is = record {
    reached = (is.reached.0, is.reached.1, (omega (arith, ints, is.reached.2)));
    least = λ r h. omega (arith, ints, is.least r h);
  }

  route_without : (o : Option ℤ) (route : List ℕ) → MatchOption o (route ≡ []) (λ z. IsRelaxed p g k route × (reduced_cost_at p k (without_rows prices []) route ≡ z))
      → MatchOption o (route ≡ []) (λ z. IsRelaxed p g k route × (reduced_cost p prices route ≡ z))
  route_without None route none = none
  route_without (Some z) route is = (is.0, (omega (arith, ints, is.1)))

  -- the leaf of the prices, some sets and some rows
  abbrev pub leaf_with : List PricedSet → List PricedRow → PricedLeaf
  leaf_with sets rows = record { customers = prices; sets = sets; rows = rows_of rows }

  pub value_alone : (sets : List PricedSet) (rows : List PricedRow) (l : Least) → sets ≡ [] → rows ≡ [] → HasLeastValueAt p g k (leaf_with sets rows) l → HasLeastValue p g k prices l
  value_alone sets rows l no_sets no_rows is =
      value_without l.value (subst (λ (x : List PricedSet). HasLeastValueAt p g k (leaf_with x []) l) no_sets
      (subst (λ (y : List PricedRow). HasLeastValueAt p g k (leaf_with sets y) l) no_rows is))

  pub route_alone : (sets : List PricedSet) (rows : List PricedRow) (l : Least) → sets ≡ [] → rows ≡ [] → HasItsRouteAt p g k (leaf_with sets rows) l → HasItsRoute p g k prices l
  route_alone sets rows l no_sets no_rows is =
      route_without l.value l.route.items (subst (λ (x : List PricedSet). HasItsRouteAt p g k (leaf_with x []) l) no_sets
      (subst (λ (y : List PricedRow). HasItsRouteAt p g k (leaf_with sets y) l) no_rows is))
