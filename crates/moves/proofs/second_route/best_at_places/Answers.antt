use Rattle.std.proofs.Common.{◌+◌, [], ◌∷◌, arith}
use Rattle.segments.specs.PlanTrees.{problem_of}
use Rattle.moves.specs.Trees.{visits_of}
use Rattle.moves.proofs.Searching.{neighbours, at_none, at_end}
use Rattle.moves.proofs.second_route.best_at_places.Goals as goal

pub loop-position-init : goal.loop-position-init
loop-position-init c =
    let f = c.args.first.now.numbers in
    at_none (problem_of c.args.trees.now) (visits_of c.args.trees.now) c.args.kind c.args.limit (f.route ∷ f.position ∷ f.length ∷ c.args.second.now.route ∷ []) c.second_positions-positions.result.start

pub loop-position-preserved : goal.loop-position-preserved
loop-position-preserved c =
    let f = c.args.first.now.numbers in
    let range = c.second_positions-positions in
    rw c.or-best.ensures
    (neighbours (problem_of c.args.trees.now) (visits_of c.args.trees.now) c.args.kind c.args.limit (f.route ∷ f.position ∷ f.length ∷ c.args.second.now.route ∷ []) range.result.start c.loop-position.position (c.loop-position.position + 1)
    c.loop-position.best c.best_at_place.result (omega arith) (omega arith) c.loop-position.invariant (rw c.limit_behind-limit.ensures at c.best_at_place.ensures))

pub returns : goal.returns
returns c =
    let f = c.args.first.now.numbers in
    let range = c.second_positions-positions in
    at_end (problem_of c.args.trees.now) (visits_of c.args.trees.now) c.args.kind c.args.limit (f.route ∷ f.position ∷ f.length ∷ []) c.args.second.now.route range.result.start range.result.end c.loop-position.position c.loop-position.best
    c.loop-position-test.false range.ensures c.loop-position.invariant
