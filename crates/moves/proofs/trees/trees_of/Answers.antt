use Rattle.moves.proofs.JoinedStops.{visits_are, are_of_plan}
use Rattle.moves.proofs.trees.trees_of.Goals as goal

pub returns-clause-routes : goal.returns-clause-routes
returns-clause-routes c = visits_are c.in_ok-trees.trees c.args.plan.now.problem _ c.in_ok-trees.ensures.routes

pub returns-clause-plan : goal.returns-clause-plan
returns-clause-plan c = are_of_plan c.in_ok-trees.trees _ _ c.in_ok-trees.ensures.problem c.in_ok-trees.ensures.routes c.in_ok-trees.ensures.trees
    (rw c.in_ok-trees.ensures.problem at c.in_ok-trees.ensures.plan)
