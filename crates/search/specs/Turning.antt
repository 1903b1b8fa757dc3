-- Turns: a descent and a search for a cheaper plan, which is held where one is found.
use Rattle.std.specs.Prelude.{◌≡◌, ◌<◌, ◌≤◌, ◌⊎◌}
use Rattle.solomon_reader.specs.Moves.{IsLocalOptimum}
use Rattle.schedule.specs.Solution.{Solution, IsSolution}
use Rattle.search.specs.Searching.{Descends}

-- a plan of the same instance at its exact cost, which no single move makes cheaper, and which costs no more
pub record IsOptimumBelow (old new : Solution) : Type 0 where
  pub problem : new.problem ≡ old.problem
  pub plan : IsSolution new
  pub optimum : IsLocalOptimum new.problem new.routes
  pub no_dearer : new.cost ≤ old.cost

-- a plan that a descent comes to
pub record IsDescent (old new : Solution) : Type 0 where
  pub below : IsOptimumBelow old new
  pub steps : Descends old.problem old.routes new.routes

-- A descent comes to a plan, the search to one that costs no more than that, and this one is held where it is cheaper.
pub record IsTurned (old new : Solution) : Type 0 where
  pub near : Solution
  pub descent : IsDescent old near
  pub found : Solution
  pub below : IsOptimumBelow near found
  pub held : ((found.cost < old.cost) × (new ≡ found)) ⊎ ((old.cost ≤ found.cost) × (new ≡ old))

-- a cheaper plan of the same instance, which no single move makes cheaper
pub record IsBetterOptimum (old new : Solution) : Type 0 where
  pub problem : new.problem ≡ old.problem
  pub cheaper : new.cost < old.cost
  pub optimum : IsLocalOptimum new.problem new.routes
