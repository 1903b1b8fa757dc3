-- What leaf values, the ceiling and bounds of trees say of plans.
use Rattle.std.specs.Prelude.{◌≡◌, ℕ, ◌+◌, ◌≤◌, List, ℤ}
use Rattle.solomon_reader.specs.Problem.{Problem, customer_count}
use Rattle.solomon_reader.specs.Plan.{IsPlan, plan_cost}
use Rattle.solomon_reader.specs.Region.{Region, Obeys}
use Rattle.solomon_reader.specs.Bound.{Version, listed_sets, IsLeafValue, ceiling_of, Tree, IsTreeBound}
use Rattle.solomon_reader.specs.SetPrices.{AreTrueNeeds}

-- a plan that obeys the region of a leaf costs at least the leaf's value
abbrev pub WeakDuality : Type 0
WeakDuality = (version : Version) (p : Problem) (g : Region) (k : ℕ) (prices : List ℤ) (v : ℕ) (routes : List (List ℕ))
    → g.size ≡ customer_count p → IsLeafValue version p g k prices v → IsPlan p routes → Obeys g routes → v ≤ plan_cost p routes

-- a plan costs at most the ceiling
abbrev pub CeilingHolds : Type 0
CeilingHolds = (p : Problem) (routes : List (List ℕ)) → IsPlan p routes → plan_cost p routes ≤ ceiling_of p

-- a plan costs at least the bound of a tree, where its sets need what they are said to
abbrev pub TreeBoundHolds : Type 0
TreeBoundHolds = (version : Version) (p : Problem) (k : ℕ) (tree : Tree) (b : ℕ) (routes : List (List ℕ))
    → AreTrueNeeds p (listed_sets version) → IsTreeBound version p k tree b → IsPlan p routes → b ≤ plan_cost p routes

-- where the bound of a tree is above the ceiling, there is no plan
abbrev pub NoPlanAbove : Type 0
NoPlanAbove = (version : Version) (p : Problem) (k : ℕ) (tree : Tree) (routes : List (List ℕ))
    → AreTrueNeeds p (listed_sets version) → IsTreeBound version p k tree (ceiling_of p + 1) → ¬ IsPlan p routes

-- no plan costs less than b
abbrev pub IsBelowPlans : Problem → ℕ → Type 0
IsBelowPlans p b = (routes : List (List ℕ)) → IsPlan p routes → b ≤ plan_cost p routes

-- some plan costs exactly this
pub record IsPlanCost (p : Problem) (cost : ℕ) : Type 0 where
  pub routes : List (List ℕ)
  pub plan : IsPlan p routes
  pub exact : cost ≡ plan_cost p routes
