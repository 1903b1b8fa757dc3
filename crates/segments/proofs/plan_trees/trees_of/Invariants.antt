use Rattle.std.proofs.Common.{◌≡◌, ◌≤◌, length, map, take}
use Rattle.std.specs.List.{AllByRecursion}
use Rattle.solomon_reader.specs.Lists.{lists}
use Rattle.segments.specs.Segments.{stop, join}
use Rattle.segments.specs.Trees.{items_of, IsTree}
use Rattle.segments.proofs.plan_trees.trees_of.Given as goal

abbrev pub invariant-loop-route : goal.invariant-loop-route
invariant-loop-route l =
    (l.route-index ≤ length l.routes) × (map items_of l.trees.items ≡ map (map (stop l.instance)) (lists (take l.route-index l.routes)))
    × AllByRecursion (IsTree (join l.instance)) l.trees.items
