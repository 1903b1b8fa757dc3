use Rattle.std.proofs.Common.{◌≡◌, ◌≤◌, length}
use Rattle.solomon_reader.specs.Moves.{route}
use Rattle.segments.specs.PlanTrees.{problem_of}
use Rattle.moves.specs.Trees.{visits_of}
use Rattle.moves.specs.Flanks.{flanks_of, ends_change}
use Rattle.moves.proofs.FlankChanges.{swaps_changed, small_sum}
use Rattle.moves.proofs.second_route.swap_changes.Goals as goal

pub returns : goal.returns
returns c =
    let p = problem_of c.args.trees.now in
    let routes = visits_of c.args.trees.now in
    let first = c.args.first.now in
    let b = c.args.second.now.route in
    let j = c.args.position in
    let front = c.change_at_place-front in
    let rears = c.args.rears.now in
    let h = c.requires.rears in
    let at : j ≤ length (route routes b) → front.result ≡ ends_change p first.front (flanks_of (route routes b) j) = rw c.from.ensures at front.ensures.value in
    swaps_changed p routes first c.requires.into.first b j front.result rears (record { one = _; two = _; three = _ }) h at
    (small_sum front.result rears.one front.ensures.small h.small_one)
    (small_sum front.result rears.two front.ensures.small h.small_two)
    (small_sum front.result rears.three front.ensures.small h.small_three)
