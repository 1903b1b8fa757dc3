use Rattle.moves.proofs.JoinedStops.{known_flanks}
use Rattle.moves.proofs.second_route.change_at_place.Goals as goal

pub change_of_ends-requires-clause-other : goal.change_of_ends-requires-clause-other
change_of_ends-requires-clause-other c = rw (c.instance.ensures, c.flanks_at.ensures, c.requires.second) (known_flanks c.args.trees.now c.args.second.now.route _ c.requires.plan)
