-- What may be wrong with a list of routes.
use Rattle.std.specs.Prelude.{◌≡◌, ℕ, ◌<◌, ◌≤◌, List, length}
use Rattle.std.specs.List.{Any, flat_map}
use Rattle.solomon_reader.specs.Problem.{Problem, IsCustomer}
use Rattle.solomon_reader.specs.Plan.{HasWalk, load_of, count_of}
use Rattle.solomon_reader.specs.declared.plan_fault.PlanFault.{PlanFault}
use Rattle.solomon_reader.specs.declared.plan_fault.PlanFault.TheVariants.{EmptyRoute, UnknownCustomer, Twice, Missing, OverCapacity, Late, FleetExceeded}

-- the stops of all routes
abbrev pub stops : List (List ℕ) → List ℕ
stops routes = flat_map (λ r. r) routes

-- the defect is found somewhere in the routes
abbrev pub HasDefect : Problem → List (List ℕ) → PlanFault → Type 0
HasDefect p routes EmptyRoute = Any (λ r. length r ≡ 0) routes
HasDefect p routes UnknownCustomer = Any (λ r. Any (λ i. ¬ IsCustomer p i) r) routes
HasDefect p routes Twice = (i : ℕ) × (2 ≤ count_of i (stops routes))
HasDefect p routes Missing = (i : ℕ) × IsCustomer p i × (count_of i (stops routes) ≡ 0)
HasDefect p routes OverCapacity = Any (λ r. p.capacity < load_of p r) routes
HasDefect p routes Late = Any (λ r. ¬ HasWalk p r) routes
HasDefect p routes FleetExceeded = p.fleet < length routes

-- the order in which defects are told
abbrev pub rank_of : PlanFault → ℕ
rank_of EmptyRoute = 0
rank_of UnknownCustomer = 1
rank_of Twice = 2
rank_of Missing = 3
rank_of OverCapacity = 4
rank_of Late = 5
rank_of FleetExceeded = 6

-- no defect of a rank below n is found
pub record IsClearBelow (p : Problem) (routes : List (List ℕ)) (n : ℕ) : Type 0 where
  pub clear : (d : PlanFault) → rank_of d < n → ¬ HasDefect p routes d

-- the defect is found, and none of a lower rank
pub record IsLowestDefect (p : Problem) (routes : List (List ℕ)) (d : PlanFault) : Type 0 where
  pub holds : HasDefect p routes d
  pub lowest : IsClearBelow p routes (rank_of d)
