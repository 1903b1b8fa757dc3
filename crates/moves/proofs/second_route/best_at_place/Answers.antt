use Rattle.std.proofs.Common.{◌≡◌, ◌∷◌, [], arith, to_z, of_z, w64}
use Rattle.std.proofs.lemmas.Int.{ints}
use Rattle.segments.specs.PlanTrees.{problem_of}
use Rattle.moves.specs.Trees.{visits_of}
use Rattle.moves.proofs.Searching.{at_end}
use Rattle.moves.proofs.FlankChanges.{none_there, takes_one}
use Rattle.moves.proofs.second_route.best_at_place.Goals as goal

pub returns : goal.returns
returns c =
    let f = c.args.first.now.numbers in
    at_end (problem_of c.args.trees.now) (visits_of c.args.trees.now) c.args.kind c.args.limit (f.route ∷ f.position ∷ f.length ∷ c.args.second.now.route ∷ []) c.args.position 0 1 1 _ (omega arith)
    (takes_one (visits_of c.args.trees.now) c.args.kind f.route f.position f.length c.args.second.now.route c.args.position c.requires.kind) c.best_of_one.ensures

pub returns-in_err-change : goal.returns-in_err-change
returns-in_err-change c =
    rw c.from_residual.ensures (none_there (problem_of c.args.trees.now) (visits_of c.args.trees.now) c.args.kind c.args.first.now.numbers c.args.second.now.route c.args.position c.args.limit c.requires.kind c.in_err-change.ensures)

pub best_of_one-requires-clause-change : goal.best_of_one-requires-clause-change
best_of_one-requires-clause-change c = let kept : to_z w64 (of_z w64 c.in_ok-change.change) ≡ c.in_ok-change.change = omega (arith, ints) in rw kept c.in_ok-change.ensures
