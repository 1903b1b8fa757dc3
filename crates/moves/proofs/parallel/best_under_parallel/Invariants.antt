use Rattle.std.proofs.Common.{[]}
use Rattle.segments.specs.PlanTrees.{problem_of}
use Rattle.moves.specs.Trees.{visits_of}
use Rattle.moves.specs.Search.{IsBestInRange}
use Rattle.moves.proofs.parallel.best_under_parallel.Given as goal

abbrev pub invariant-loop-piece : goal.invariant-loop-piece
invariant-loop-piece g l = IsBestInRange (problem_of l.trees) (visits_of l.trees) l.fn.kind [] 0 l.piece-index l.fn.limit l.best
