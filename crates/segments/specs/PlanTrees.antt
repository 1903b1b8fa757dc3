-- The trees of a plan's routes.
use Rattle.std.specs.Prelude.{List, map}
use Rattle.std.specs.List.{AllByRecursion}
use Rattle.solomon_reader.specs.Problem.{Problem}
use Rattle.segments.specs.Segments.{Summary, join}
use Rattle.segments.specs.Trees.{items_of, IsTree}
use Rattle.segments.specs.declared.plan_trees.PlanTrees.{PlanTrees}

-- the instance
abbrev pub problem_of : PlanTrees → Problem
problem_of t = t.instance.now

-- the routes as lists of stops
abbrev pub routes_of : PlanTrees → List (List Summary)
routes_of t = map items_of t.routes.items

-- each tree is one of the instance
abbrev pub AreTrees : PlanTrees → Type 0
AreTrees t = AllByRecursion (IsTree (join (problem_of t))) t.routes.items
