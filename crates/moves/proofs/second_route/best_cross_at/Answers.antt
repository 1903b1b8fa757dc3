use Rattle.std.proofs.Common.{◌≡◌, ◌+◌, [], ◌∷◌, arith, to_z, of_z, w64}
use Rattle.std.proofs.lemmas.Int.{ints}
use Rattle.segments.specs.PlanTrees.{problem_of}
use Rattle.moves.specs.declared.candidate.Kind.TheVariants as kinds
use Rattle.moves.specs.Trees.{visits_of}
use Rattle.moves.proofs.Searching.{neighbours, at_none, at_end}
use Rattle.moves.proofs.second_route.best_cross_at.Goals as goal

pub loop-length-init : goal.loop-length-init
loop-length-init c =
    let f = c.args.first.now.numbers in
    at_none (problem_of c.args.trees.now) (visits_of c.args.trees.now) kinds.Cross c.args.limit (f.route ∷ f.position ∷ f.length ∷ c.args.place.route ∷ c.args.place.position ∷ []) c.second_lengths-lengths.result.start

pub loop-length-preserved : goal.loop-length-preserved
loop-length-preserved c =
    let f = c.args.first.now.numbers in
    let range = c.second_lengths-lengths in
    rw c.or-best.ensures
    (neighbours (problem_of c.args.trees.now) (visits_of c.args.trees.now) kinds.Cross c.args.limit (f.route ∷ f.position ∷ f.length ∷ c.args.place.route ∷ c.args.place.position ∷ []) range.result.start
    c.loop-length.length (c.loop-length.length + 1) c.loop-length.best c.best_of_one.result (omega arith) (omega arith) c.loop-length.invariant (rw c.limit_behind-limit.ensures at c.best_of_one.ensures))

pub returns : goal.returns
returns c =
    let f = c.args.first.now.numbers in
    let range = c.second_lengths-lengths in
    at_end (problem_of c.args.trees.now) (visits_of c.args.trees.now) kinds.Cross c.args.limit (f.route ∷ f.position ∷ f.length ∷ c.args.place.route ∷ []) c.args.place.position
    range.result.start range.result.end c.loop-length.length c.loop-length.best c.loop-length-test.false range.ensures.range c.loop-length.invariant

pub best_of_one-requires-clause-change : goal.best_of_one-requires-clause-change
best_of_one-requires-clause-change c =
    let kept : to_z w64 (of_z w64 c.by-change.result) ≡ c.by-change.result = omega (arith, ints) in
    rw (kept, c.by-change.ensures) (c.requires.changes c.loop-length.length)
