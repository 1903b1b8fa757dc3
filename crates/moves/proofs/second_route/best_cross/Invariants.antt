use Rattle.std.proofs.Common.{[], ◌∷◌}
use Rattle.solomon_reader.specs.Moves.{route}
use Rattle.segments.specs.PlanTrees.{problem_of}
use Rattle.moves.specs.declared.candidate.Kind.TheVariants as kinds
use Rattle.moves.specs.Trees.{visits_of}
use Rattle.moves.specs.Search.{IsBestInRange}
use Rattle.moves.specs.SecondRoutes.{AreRears}
use Rattle.moves.proofs.second_route.best_cross.Given as goal

abbrev pub invariant-loop-position : goal.invariant-loop-position
invariant-loop-position l =
    let f = l.first.numbers in
    IsBestInRange (problem_of l.trees) (visits_of l.trees) kinds.Cross (f.route ∷ f.position ∷ f.length ∷ l.second.route ∷ []) l.initial.position l.position l.fn.limit l.best
    × AreRears (problem_of l.trees) l.first (route (visits_of l.trees) l.second.route) l.position l.rears
