use Rattle.std.proofs.Common.{[], ◌∷◌}
use Rattle.segments.specs.PlanTrees.{problem_of}
use Rattle.moves.specs.declared.candidate.Kind.TheVariants as kinds
use Rattle.moves.specs.Trees.{visits_of}
use Rattle.moves.specs.Search.{IsBestInRange}
use Rattle.moves.proofs.second_route.best_cross_at.Given as goal

abbrev pub invariant-loop-length : goal.invariant-loop-length
invariant-loop-length l =
    let f = l.first.numbers in
    IsBestInRange (problem_of l.trees) (visits_of l.trees) kinds.Cross (f.route ∷ f.position ∷ f.length ∷ l.route ∷ l.position ∷ []) l.initial.length l.length l.fn.limit l.best
