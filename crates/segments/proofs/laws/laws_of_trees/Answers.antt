use Rattle.segments.proofs.RouteChanges.{routes_of-with_route, trees-with_route}
use Rattle.segments.proofs.laws.laws_of_trees.Goals as goal

pub returns : goal.returns
returns c = record { routes = routes_of-with_route; trees = trees-with_route }
