use Rattle.std.proofs.Common.{◌+◌, [], ◌∷◌, sym, subst}
use Rattle.segments.specs.PlanTrees.{problem_of}
use Rattle.moves.specs.Trees.{visits_of}
use Rattle.moves.specs.Search.{IsBestInRange}
use Rattle.moves.proofs.second_route.best_into_route.Goals as goal

pub returns-in-Cross : goal.returns-in-Cross
returns-in-Cross c =
    let f = c.args.first.now.numbers in
    subst (λ k. IsBestInRange (problem_of c.args.trees.now) (visits_of c.args.trees.now) k (f.route ∷ f.position ∷ f.length ∷ []) c.args.route (c.args.route + 1) c.args.limit c.best_cross.result)
    (sym c.in-Cross.is) c.best_cross.ensures
