use Rattle.std.proofs.Common.{◌≡◌, ◌≤◌, length, map, take}
use Rattle.segments.specs.Segments.{stop}
use Rattle.segments.proofs.plan_trees.stops_of.Given as goal

abbrev pub invariant-loop-customer : goal.invariant-loop-customer
invariant-loop-customer l =
    (l.customer-index ≤ length l.route) × (l.stops.items ≡ map (stop l.instance) (take l.customer-index l.route))
