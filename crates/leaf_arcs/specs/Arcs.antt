-- The arcs that a leaf allows, with what a step over them needs.
use Rattle.std.specs.Prelude.{◌≡◌, ◌↔◌, ℕ, ◌+◌, ◌*◌, ◌<◌, ◌≤◌, List, Vec, length, slice_index_or, IsTrue, Bool, true, ◌==◌, pos, ◌+ℤ◌, ◌≤ℤ◌, nat_abs}
use Rattle.std.specs.declared.alloc.Global.{Global}
use Rattle.std.specs.List.{AllByRecursion, list_any}
use Rattle.solomon_reader.specs.declared.limits.TheConstants.{MOST_TIME, MOST_DISTANCE, MOST_DEMAND, MOST_PRICE}
use Rattle.solomon_reader.specs.Problem.{Problem, IsCustomer, customer_count, demand, ready, due, service}
use Rattle.solomon_reader.specs.Distance.{distance}
use Rattle.solomon_reader.specs.Region.{IsAllowed, root_region}
use Rattle.solomon_reader.specs.States.{Pricing, pricing_by, arc_value, most_grains}
use Rattle.solomon_reader.specs.CustomerSets.{IsCustomerSet}
use Rattle.solomon_reader.specs.SetPrices.{price_sum}
use Rattle.solomon_reader.specs.SubsetRows.{row_price_sum}
use Rattle.solomon_reader.specs.PricedLeaf.{PricedLeaf}
use Rattle.leaf_arcs.specs.declared.arcs.AllowedArc.{AllowedArc}
use Rattle.leaf_arcs.specs.declared.arcs.ArcRow.{ArcRow}
use Rattle.solomon_reader.specs.Memories.{place_of}

-- the arc from v has what a step over it needs
pub record IsAllowedArc (q : Pricing) (v : ℕ) (h : AllowedArc) : Type 0 where
  pub customer : IsCustomer q.problem h.to
  pub bit : h.bit ≡ place_of q.problem q.neighbours v h.to
  pub listed : h.bit ≤ 16
  pub demand_is : h.demand ≡ demand q.problem h.to
  pub carried : 1 ≤ h.demand
  pub light : h.demand ≤ MOST_DEMAND
  pub travel_is : h.travel ≡ distance q.problem v h.to
  pub near : h.travel ≤ MOST_DISTANCE
  pub ready_is : h.ready ≡ ready q.problem h.to
  pub early : h.ready ≤ 10 * MOST_TIME
  pub due_is : h.due ≡ due q.problem h.to
  pub late : h.due ≤ 10 * MOST_TIME
  pub service_is : h.service ≡ service q.problem h.to
  pub short : h.service ≤ 10 * MOST_TIME
  pub value_is : h.value ≡ arc_value q.problem q.paid v h.to
  pub low : pos 0 ≤ℤ (h.value +ℤ pos most_grains)
  pub high : h.value ≤ℤ pos most_grains

abbrev pub arc_in : List AllowedArc → ℕ → AllowedArc
arc_in hs m = slice_index_or hs m (record { to = 0; bit = 0; demand = 0; travel = 0; ready = 0; due = 0; service = 0; value = pos 0 })

-- time allows the arc from v to j: no vehicle leaves v before service there is done
abbrev pub IsInTime : Problem → ℕ → ℕ → Type 0
IsInTime p v j = (ready p v + service p v) + distance p v j ≤ due p j

-- an arc of the list leads to j
abbrev pub leads : List AllowedArc → ℕ → Bool
leads hs j = list_any (λ h. h.to == j) hs

-- the arcs from v to customers that the region and time allow
pub record AreAllowedArcs (q : Pricing) (v : ℕ) (hs : List AllowedArc) : Type 0 where
  pub each : (m : ℕ) → m < length hs → IsAllowedArc q v (arc_in hs m)
  pub allowed : (m : ℕ) → m < length hs → IsAllowed q.region (v, (arc_in hs m).to)
  pub all : (j : ℕ) → IsCustomer q.problem j → IsAllowed q.region (v, j) → IsInTime q.problem v j → leads hs j ≡ true

-- the row says where a route may go from v
pub record IsArcRow (q : Pricing) (v : ℕ) (r : ArcRow) : Type 0 where
  pub arcs : AreAllowedArcs q v r.arcs.items
  pub ends : IsTrue r.ends ↔ IsAllowed q.region (v, 0)
  pub back_is : r.back ≡ distance q.problem v 0
  pub near : r.back ≤ MOST_DISTANCE
  pub earliest_is : r.earliest ≡ ready q.problem v + service q.problem v

-- the row of each row of the instance
pub record AreArcRows (q : Pricing) (all : List ArcRow) : Type 0 where
  pub count : length all ≡ length q.problem.rows
  pub each : (v : ℕ) (d : ArcRow) → v < length q.problem.rows → IsArcRow q v (slice_index_or all v d)

-- where nothing is decided, and steps are paid nothing
abbrev pub free_pricing : Problem → ℕ → Pricing
free_pricing p k = pricing_by p (root_region (customer_count p)) k (λ _ _. pos 0)

-- the arcs from each row there
pub record AreFreeArcs (p : Problem) (k : ℕ) (all : List (Vec AllowedArc Global)) : Type 0 where
  pub count : length all ≡ length p.rows
  pub each : (v : ℕ) (d : Vec AllowedArc Global) → v < length p.rows → AreAllowedArcs (free_pricing p k) v (slice_index_or all v d).items

-- there is a price for each customer, which is within its range together with those of sets and rows, and each has a demand
pub record IsPricing (p : Problem) (leaf : PricedLeaf) : Type 0 where
  pub count : length leaf.customers ≡ customer_count p
  pub within : AllByRecursion (λ z. (price_sum leaf.sets + row_price_sum leaf.rows) + nat_abs z ≤ MOST_PRICE) leaf.customers
  pub sets_are : AllByRecursion (λ s. IsCustomerSet (customer_count p) s.members) leaf.sets
  pub carried : (i : ℕ) → IsCustomer p i → 1 ≤ demand p i
