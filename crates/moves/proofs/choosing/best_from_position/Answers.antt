use Rattle.std.proofs.Common.{◌+◌, [], ◌∷◌, arith}
use Rattle.segments.specs.PlanTrees.{problem_of}
use Rattle.moves.specs.Trees.{visits_of}
use Rattle.moves.proofs.Searching.{neighbours, at_none, at_end}
use Rattle.moves.proofs.choosing.best_from_position.Goals as goal

pub loop-length-init : goal.loop-length-init
loop-length-init c =
    at_none (problem_of c.args.trees.now) (visits_of c.args.trees.now) c.args.kind c.args.limit (c.args.route ∷ c.args.position ∷ []) c.first_lengths-lengths.result.start

pub loop-length-preserved : goal.loop-length-preserved
loop-length-preserved c =
    let range = c.first_lengths-lengths in
    rw c.or-best.ensures
    (neighbours (problem_of c.args.trees.now) (visits_of c.args.trees.now) c.args.kind c.args.limit (c.args.route ∷ c.args.position ∷ []) range.result.start c.loop-length.length (c.loop-length.length + 1)
    c.loop-length.best c.best_of_chain.result (omega arith) (omega arith) c.loop-length.invariant (rw c.limit_behind-limit.ensures at c.best_of_chain.ensures))

pub returns : goal.returns
returns c =
    let range = c.first_lengths-lengths in
    at_end (problem_of c.args.trees.now) (visits_of c.args.trees.now) c.args.kind c.args.limit (c.args.route ∷ []) c.args.position range.result.start range.result.end c.loop-length.length c.loop-length.best
    c.loop-length-test.false range.ensures.range c.loop-length.invariant
