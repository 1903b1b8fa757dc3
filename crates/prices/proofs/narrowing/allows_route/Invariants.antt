use Rattle.std.proofs.Common.{drop}
use Rattle.std.specs.List.{AllByRecursion}
use Rattle.solomon_reader.specs.Plan.{arcs_from, arcs}
use Rattle.solomon_reader.specs.Region.{IsAllowed}
use Rattle.prices.proofs.narrowing.allows_route.Given as goal

abbrev pub invariant-loop-stop : goal.invariant-loop-stop
invariant-loop-stop l =
    AllByRecursion (IsAllowed l.region) (arcs_from l.from (drop l.stop-index l.stops)) → AllByRecursion (IsAllowed l.region) (arcs l.stops)
