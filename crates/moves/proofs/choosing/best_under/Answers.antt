use Rattle.std.proofs.Common.{◌≤◌, ◌+◌, [], length, arith}
use Rattle.segments.specs.PlanTrees.{problem_of}
use Rattle.moves.specs.Trees.{visits_of}
use Rattle.moves.proofs.Searching.{neighbours, at_none, at_last}
use Rattle.moves.proofs.choosing.best_under.Goals as goal

pub loop-route-init : goal.loop-route-init
loop-route-init c = at_none (problem_of c.args.trees.now) (visits_of c.args.trees.now) c.args.kind c.args.limit [] 0

pub loop-route-preserved : goal.loop-route-preserved
loop-route-preserved c =
    rw c.or-best.ensures
    (neighbours (problem_of c.args.trees.now) (visits_of c.args.trees.now) c.args.kind c.args.limit [] 0 c.loop-route.route (c.loop-route.route + 1) c.loop-route.best c.best_from_route.result
    (omega arith) (omega arith) c.loop-route.invariant (rw c.limit_behind-limit.ensures at c.best_from_route.ensures))

pub returns : goal.returns
returns c =
    let most : length (visits_of c.args.trees.now) ≤ c.loop-route.route = omega (arith, c.route_count-route-end.ensures.value, c.loop-route-test.false) in
    at_last (problem_of c.args.trees.now) (visits_of c.args.trees.now) c.args.kind c.args.limit c.loop-route.route c.loop-route.best most c.loop-route.invariant
