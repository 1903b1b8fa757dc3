use Rattle.std.proofs.Common.{◌≤◌, ◌<◌, ◌+◌, ℕ, List, [], None, length, slice_index_or, arith}
use Rattle.std.specs.Prelude.{ℤ, Option}
use Rattle.solomon_reader.specs.Problem.{Problem}
use Rattle.segments.specs.PlanTrees.{problem_of}
use Rattle.moves.specs.declared.candidate.Move.{Move}
use Rattle.moves.specs.declared.candidate.Kind.{Kind}
use Rattle.moves.specs.Trees.{visits_of}
use Rattle.moves.specs.Search.{IsBestInRange}
use Rattle.moves.proofs.Searching.{as_many, at_place, neighbours, lowered_range, at_last}
use Rattle.moves.proofs.parallel.best_under_parallel.Goals as goal

-- the best of the moves of a kind with the first route a
abbrev IsBestFrom : Problem → List (List ℕ) → Kind → Option ℤ → ℕ → Option (Move × ℤ) → Type 0
IsBestFrom p routes k limit a best = IsBestInRange p routes k [] a (a + 1) limit best

pub loop-piece-preserved : goal.loop-piece-preserved
loop-piece-preserved g c =
    let p = problem_of c.args.trees.now in
    let routes = visits_of c.args.trees.now in
    let k = c.args.kind in
    let limit = c.args.limit in
    let pieces = c.in_ok-pieces.pieces.items in
    let place = c.loop-piece.piece-index in
    let below : place < length pieces = rw c.deref-piece-items.ensures.value at c.loop-piece-test.true in
    let piece = at_place (IsBestFrom p routes k limit) (length routes) pieces place None c.in_ok-pieces.ensures below in
    let lowered = lowered_range p routes k limit [] 0 place (place + 1) c.loop-piece.best (slice_index_or pieces place None) c.loop-piece.invariant piece in
    rw (c.or-best.ensures, c.under.ensures, c.limit_behind.ensures, c.deref-piece-items.ensures.value)
    (neighbours p routes k limit [] 0 place (place + 1) c.loop-piece.best _ (omega arith) (omega arith) c.loop-piece.invariant lowered)

pub returns-clause-best : goal.returns-clause-best
returns-clause-best g c =
    let p = problem_of c.args.trees.now in
    let routes = visits_of c.args.trees.now in
    let pieces = c.in_ok-pieces.pieces.items in
    let over : length pieces ≤ c.loop-piece.piece-index = rw c.deref-piece-items.ensures.value at c.loop-piece-test.false in
    let all = as_many (IsBestFrom p routes c.args.kind c.args.limit) 0 (length routes) pieces c.in_ok-pieces.ensures in
    let most : length routes ≤ c.loop-piece.piece-index = omega (arith, all) in
    at_last p routes c.args.kind c.args.limit c.loop-piece.piece-index c.loop-piece.best most c.loop-piece.invariant
