-- What needs of sets, charges of rows, and values with both, say of plans.
use Rattle.std.specs.Prelude.{◌≡◌, ℕ, ◌*◌, ◌≤◌, ◌↔◌, List, [], ℤ}
use Rattle.std.specs.List.{AllByRecursion}
use Rattle.solomon_reader.specs.Problem.{Problem, customer_count}
use Rattle.solomon_reader.specs.Plan.{IsPlan, plan_cost}
use Rattle.solomon_reader.specs.Region.{Region, Obeys}
use Rattle.solomon_reader.specs.Bound.{Version, IsLeafValue, IsLeafValueAt}
use Rattle.solomon_reader.specs.CustomerSets.{IsCustomerSet, IsNeeded, plan_entries}
use Rattle.solomon_reader.specs.SetPrices.{IsTrueNeed, by_sets}
use Rattle.solomon_reader.specs.SubsetRows.{SubsetRow, charges, plan_charges, visits}
use Rattle.solomon_reader.specs.PricedLeaf.{PricedLeaf, without_rows, reduced_cost_at, charged_cost_by}

-- a plan enters a set at least as often as it needs
abbrev pub NeedsHold : Type 0
NeedsHold = (p : Problem) (s : List ℕ) (n : ℕ) (routes : List (List ℕ)) → IsCustomerSet (customer_count p) s → IsNeeded p s n → IsPlan p routes
    → n ≤ plan_entries s routes

-- a route's charges are at most half of its visits to the three
abbrev pub ChargesAreHalf : Type 0
ChargesAreHalf = (p : Problem) (k : ℕ) (s : SubsetRow) (r : List ℕ) → 2 * charges p k s r ≤ visits s r

-- a plan is charged at most once
abbrev pub PlanIsChargedOnce : Type 0
PlanIsChargedOnce = (p : Problem) (k : ℕ) (s : SubsetRow) (routes : List (List ℕ)) → IsPlan p routes → plan_charges p k s routes ≤ 1

-- a plan that obeys the region of a leaf costs at least its value with sets that need what they are said to, and any rows
abbrev pub LeafWeakDuality : Type 0
LeafWeakDuality = (version : Version) (p : Problem) (g : Region) (k : ℕ) (leaf : PricedLeaf) (v : ℕ) (routes : List (List ℕ))
    → g.size ≡ customer_count p → AllByRecursion (λ s. IsTrueNeed p s.members s.need) leaf.sets → IsLeafValueAt version p g k leaf v
    → IsPlan p routes → Obeys g routes → v ≤ plan_cost p routes

-- without sets and rows a leaf has the value that it has without them
abbrev pub SameWithout : Type 0
SameWithout = (version : Version) (p : Problem) (g : Region) (k : ℕ) (prices : List ℤ) (v : ℕ)
    → IsLeafValueAt version p g k (without_rows prices []) v ↔ IsLeafValue version p g k prices v

-- where each step is paid the price of the customer that it leads to and those of the sets that it enters, and rows charge, it is the cost less the prices of stops and entries, and what rows charge
abbrev pub PaidBySets : Type 0
PaidBySets = (p : Problem) (k n : ℕ) (leaf : PricedLeaf) (r : List ℕ) → AllByRecursion (λ s. IsCustomerSet n s.members) leaf.sets
    → charged_cost_by p k (by_sets leaf.customers leaf.sets) leaf.rows r ≡ reduced_cost_at p k leaf r
