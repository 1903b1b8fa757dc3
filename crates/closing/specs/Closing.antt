-- What it is to close an instance.
use Rattle.std.specs.Prelude.{◌≡◌, ℕ, ◌+◌, ◌<◌, ◌≤◌, List, [], Option, Some, None, option_map, IfSome, MatchOption}
use Rattle.solomon_reader.specs.Problem.{Problem, customer_count}
use Rattle.solomon_reader.specs.Duality.{IsPlanCost}
use Rattle.solomon_reader.specs.Bound.{ceiling_of, version_2}
use Rattle.schedule.specs.Solution.{Solution}
use Rattle.insertion.specs.Building.{IsServedAlone}
use Rattle.branching.specs.Nodes.{IsListedTree}
use Rattle.branching.specs.declared.tree_node.TreeNode.{TreeNode}
use Rattle.closing.specs.declared.found.Found.{Found}
use Rattle.closing.specs.declared.fault.CloseAloneFault.{CloseAloneFault}
use Rattle.closing.specs.declared.fault.CloseAloneFault.TheVariants.{Memory, LeafLimit, TooLarge}
use Rattle.closing.specs.declared.fault.TheConstants.{MOST_CLOSED}

-- the least cost known, or above the ceiling where no plan is
abbrev pub known_or_above : Problem → Option ℕ → ℕ
known_or_above p None = ceiling_of p + 1
known_or_above p (Some cost) = cost

abbrev pub costs : Option Solution → Option ℕ
costs plan = option_map (λ f. f.cost) plan

-- A plan whose cost is the bound, or no plan and a bound above the ceiling; and a tree with that bound, with no more leaves than the limit.
pub record IsClosed (p : Problem) (k limit : ℕ) (c : Found) : Type 0 where
  pub small : customer_count p ≤ MOST_CLOSED
  pub plan : IfSome c.plan (λ f. f.problem ≡ p)
  pub meets : c.bound ≡ known_or_above p (costs c.plan)
  pub most : c.bound ≤ ceiling_of p + 1
  pub no_sets : c.sets.items ≡ []
  pub no_rows : c.rows.items ≡ []
  pub leaves : ℕ
  pub tree : IsListedTree version_2 p k c.nodes.items c.bound leaves
  pub within : leaves ≤ limit

-- A tree with exactly as many leaves as the limit allows, whose bound is below the cost told, which a plan has, or at
-- most the ceiling where none is told. A cost is told where there is a vehicle for each customer and each can be served
-- alone.
pub record IsStopped (p : Problem) (k limit : ℕ) (cost : Option ℕ) (bound : ℕ) (nodes : List TreeNode) : Type 0 where
  pub small : customer_count p ≤ MOST_CLOSED
  pub plan : MatchOption cost (¬ IsServedAlone p) (IsPlanCost p)
  pub below : bound < known_or_above p cost
  pub tree : IsListedTree version_2 p k nodes bound limit

-- No cost is told above that of the plan that a closing begins with; where there is such a plan, a cost is told, since
-- no plan costs more than the ceiling.
abbrev pub IsNoDearer : Problem → Option Solution → CloseAloneFault → Type 0
IsNoDearer p start Memory = Unit {0}
IsNoDearer p start (LeafLimit cost bound nodes) = IfSome start (λ f. known_or_above p cost ≤ f.cost)
IsNoDearer p start TooLarge = Unit {0}

-- why an instance isn't closed
abbrev pub IsLeftOpen : Problem → ℕ → ℕ → CloseAloneFault → Type 0
IsLeftOpen p k limit Memory = customer_count p ≤ MOST_CLOSED
IsLeftOpen p k limit (LeafLimit cost bound nodes) = IsStopped p k limit cost bound nodes.items
IsLeftOpen p k limit TooLarge = MOST_CLOSED < customer_count p
