use Rattle.segments.proofs.StopJoins.{known_routes}
use Rattle.segments.proofs.plan_trees.PlanTrees.new.Goals as goal

pub trees_of-requires : goal.trees_of-requires
trees_of-requires c =
    rw c.instance-instance.ensures.is (known_routes c.args.plan.now.problem c.routes.result.now (rw c.routes.ensures c.instance-instance.ensures.solution.plan.fitting))
