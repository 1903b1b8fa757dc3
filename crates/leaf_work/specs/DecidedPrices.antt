-- Prices of a region whose allowed arcs are all required, and its plan.
use Rattle.std.specs.Prelude.{◌≡◌, ℕ, ◌+◌, ◌≤◌, List, ℤ, Option, Some, None}
use Rattle.solomon_reader.specs.Problem.{Problem}
use Rattle.solomon_reader.specs.Plan.{IsPlan, plan_cost}
use Rattle.solomon_reader.specs.Region.{Region, Obeys}
use Rattle.solomon_reader.specs.Bound.{Version, IsLeafValue, ceiling_of}
use Rattle.schedule.specs.Solution.{Solution}

-- no plan obeys the region
abbrev pub HasNoPlan : Problem → Region → Type 0
HasNoPlan p g = (routes : List (List ℕ)) → IsPlan p routes → ¬ Obeys g routes

-- every plan that obeys the region costs this, in tenths
abbrev pub AllCost : Problem → Region → ℕ → Type 0
AllCost p g cost = (routes : List (List ℕ)) → IsPlan p routes → Obeys g routes → plan_cost p routes ≡ cost

-- the plan obeys the region, and every plan that does costs the value; without a plan none obeys it
abbrev pub IsDecidedBy : Problem → Region → ℕ → Option Solution → Type 0
IsDecidedBy p g value None = HasNoPlan p g
IsDecidedBy p g value (Some f) = Obeys g f.routes × AllCost p g value

-- by either rule, and with any number of neighbours, a leaf with these prices has only such values
abbrev pub AllValues : Problem → Region → List ℤ → (ℕ → Type 0) → Type 0
AllValues p g prices P = (version : Version) (k v : ℕ) → IsLeafValue version p g k prices v → P v

-- the value of the prices is the plan's cost, which is that of all plans that obey the region; without a plan it is above the ceiling, and none obeys the region
abbrev pub AreDecidedPrices : Problem → Region → List ℤ → Option Solution → Type 0
AreDecidedPrices p g prices None = AllValues p g prices (λ v. ceiling_of p + 1 ≤ v) × HasNoPlan p g
AreDecidedPrices p g prices (Some f) = AllValues p g prices (λ v. v ≡ f.cost) × IsDecidedBy p g f.cost (Some f)
