-- A route of a plan's trees, lent to be changed.
use Rattle.std.specs.Prelude.{ℕ, []}
use Rattle.std.specs.Borrow.{Lends, MutBor, Fml}
use Rattle.std.specs.Vec.{with_item}
use mir.Syntax.{named}
use Rattle.segments.specs.Segments.{Summary}
use Rattle.segments.specs.declared.tree.RouteTree.{RouteTree}
use Rattle.segments.specs.declared.plan_trees.PlanTrees.{PlanTrees}
use Rattle.segments.specs.contracts.segment.Segment as segment
use Rattle.segments.specs.contracts.tree.RouteTree as tree
use Rattle.segments.specs.contracts.plan_trees.PlanTrees as plan_trees

-- the trees with route r replaced
abbrev pub with_route : PlanTrees → ℕ → RouteTree Summary → PlanTrees
with_route t r w = record t { routes = with_item t.routes r w }

-- the trees end with route r as it is left behind the result
abbrev pub LendsRoute : MutBor PlanTrees → ℕ → MutBor (RouteTree Summary) → Fml
LendsRoute t r result = Lends (plan_trees.the_row (record { mir = named 1; lft = [] })) (tree.the_row segment.the_row) t result (with_route t.now r)
