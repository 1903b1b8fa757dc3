use Rattle.std.proofs.Common.{[]}
use Rattle.segments.specs.PlanTrees.{problem_of}
use Rattle.moves.specs.Trees.{visits_of}
use Rattle.moves.specs.Search.{IsBestInRange}
use Rattle.moves.proofs.choosing.best_under.Given as goal

abbrev pub invariant-loop-route : goal.invariant-loop-route
invariant-loop-route l = IsBestInRange (problem_of l.trees) (visits_of l.trees) l.kind [] 0 l.route l.fn.limit l.best
