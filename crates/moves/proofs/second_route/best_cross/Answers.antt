use Rattle.std.proofs.Common.{◌≡◌, ◌+◌, [], ◌∷◌, arith, to_z, of_z, w64}
use Rattle.std.proofs.lemmas.Int.{ints}
use Rattle.solomon_reader.specs.Moves.{route}
use Rattle.segments.specs.PlanTrees.{problem_of}
use Rattle.moves.specs.declared.candidate.Kind.TheVariants as kinds
use Rattle.moves.specs.Trees.{visits_of}
use Rattle.moves.proofs.Searching.{neighbours, at_none, at_end}
use Rattle.moves.proofs.FlankChanges.{next_rears}
use Rattle.moves.proofs.second_route.best_cross.Goals as goal

pub loop-position-init : goal.loop-position-init
loop-position-init c =
    let f = c.args.first.now.numbers in
    (at_none (problem_of c.args.trees.now) (visits_of c.args.trees.now) kinds.Cross c.args.limit (f.route ∷ f.position ∷ f.length ∷ c.args.second.now.route ∷ []) c.second_positions-positions.result.start, rw c.from.ensures at c.rears_at-rears.ensures)

pub loop-position-preserved : goal.loop-position-preserved
loop-position-preserved c =
    let f = c.args.first.now.numbers in
    let range = c.second_positions-positions in
    let next = c.change_at_place-next in
    let rears = c.loop-position.rears in
    let behind = c.loop-position.invariant.1 in
    let two : to_z w64 (of_z w64 rears.two) ≡ rears.two = omega (arith, ints, behind.small_two.0, behind.small_two.1) in
    let three : to_z w64 (of_z w64 rears.three) ≡ rears.three = omega (arith, ints, behind.small_three.0, behind.small_three.1) in
    let last : to_z w64 (of_z w64 next.result) ≡ next.result = omega (arith, ints, next.ensures.small.0, next.ensures.small.1) in (
      rw c.or-best.ensures
          (neighbours (problem_of c.args.trees.now) (visits_of c.args.trees.now) kinds.Cross c.args.limit (f.route ∷ f.position ∷ f.length ∷ c.args.second.now.route ∷ []) range.result.start
          c.loop-position.position (c.loop-position.position + 1) c.loop-position.best c.best_cross_at.result (omega arith) (omega arith) c.loop-position.invariant.0
          (rw c.limit_behind-limit.ensures at c.best_cross_at.ensures)),
      rw (two, three, last)
          (next_rears (problem_of c.args.trees.now) c.args.first.now (route (visits_of c.args.trees.now) c.args.second.now.route) c.loop-position.position rears next.result
          behind (rw c.from-in-loop-position.ensures at next.ensures.value) next.ensures.small),
    )

pub returns : goal.returns
returns c =
    let f = c.args.first.now.numbers in
    let range = c.second_positions-positions in
    at_end (problem_of c.args.trees.now) (visits_of c.args.trees.now) kinds.Cross c.args.limit (f.route ∷ f.position ∷ f.length ∷ []) c.args.second.now.route
    range.result.start range.result.end c.loop-position.position c.loop-position.best c.loop-position-test.false range.ensures c.loop-position.invariant.0
