use Rattle.std.proofs.Common.{[], ◌∷◌}
use Rattle.segments.specs.PlanTrees.{problem_of}
use Rattle.moves.specs.Trees.{visits_of}
use Rattle.moves.specs.Search.{IsBestInRange}
use Rattle.moves.proofs.choosing.best_from_position.Given as goal

abbrev pub invariant-loop-length : goal.invariant-loop-length
invariant-loop-length l =
    IsBestInRange (problem_of l.trees) (visits_of l.trees) l.kind (l.route ∷ l.position ∷ []) l.initial.length l.length l.fn.limit l.best
