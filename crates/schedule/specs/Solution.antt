-- A plan with its instance and its cost.
use Rattle.std.specs.Prelude.{◌≡◌, ℕ, List}
use Rattle.solomon_reader.specs.Problem.{Problem}
use Rattle.solomon_reader.specs.Plan.{IsPlan, plan_cost}

-- routes for an instance, and a cost in tenths
pub record Solution : Type 0 where
  pub problem : Problem
  pub routes : List (List ℕ)
  pub cost : ℕ

-- The routes are a plan, at its exact cost.
pub record IsSolution (s : Solution) : Type 0 where
  pub plan : IsPlan s.problem s.routes
  pub exact : s.cost ≡ plan_cost s.problem s.routes
