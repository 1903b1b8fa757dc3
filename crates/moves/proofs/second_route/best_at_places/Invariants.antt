use Rattle.std.proofs.Common.{[], ◌∷◌}
use Rattle.segments.specs.PlanTrees.{problem_of}
use Rattle.moves.specs.Trees.{visits_of}
use Rattle.moves.specs.Search.{IsBestInRange}
use Rattle.moves.proofs.second_route.best_at_places.Given as goal

abbrev pub invariant-loop-position : goal.invariant-loop-position
invariant-loop-position l =
    IsBestInRange (problem_of l.trees) (visits_of l.trees) l.kind (l.first.numbers.route ∷ l.first.numbers.position ∷ l.first.numbers.length ∷ l.second.route ∷ []) l.initial.position l.position l.fn.limit l.best
