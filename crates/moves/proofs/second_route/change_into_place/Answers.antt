use Rattle.std.proofs.Common.{◌≡◌, ◌≤◌, length, ap, arith, to_z, of_z, w64}
use Rattle.std.specs.Prelude.{◌+ℤ◌}
use Rattle.std.proofs.lemmas.Int.{ints}
use Rattle.solomon_reader.specs.Moves.{route}
use Rattle.segments.specs.PlanTrees.{problem_of}
use Rattle.moves.specs.Trees.{visits_of}
use Rattle.moves.specs.Flanks.{flanks_of, entering_change}
use Rattle.moves.proofs.JoinedStops.{known_flanks, as_many}
use Rattle.moves.proofs.second_route.change_into_place.Goals as goal

pub change_of_entering-requires-clause-place : goal.change_of_entering-requires-clause-place
change_of_entering-requires-clause-place c = rw (c.instance.ensures, c.flanks_at-place.ensures, c.requires.second) (known_flanks c.args.trees.now c.args.second.now.route _ c.requires.plan)

pub returns : goal.returns
returns c =
    let l = c.args.first.now.leaving in
    let e = c.change_of_entering.result in
    let small = c.requires.first.small in
    let v = c.change_of_entering.ensures in
    let r = route (visits_of c.args.trees.now) c.args.second.now.route in
    let one : to_z w64 (of_z w64 l) ≡ l = omega (arith, ints, small.0, small.1) in
    let other : to_z w64 (of_z w64 e) ≡ e = omega (arith, ints, v.small.0, v.small.1) in
    let both : to_z w64 (of_z w64 (l +ℤ e)) ≡ l +ℤ e = omega (arith, ints, small.0, small.1, v.small.0, v.small.1) in
    let value : e ≡ entering_change (problem_of c.args.trees.now) c.args.first.now.front c.args.first.now.rear (flanks_of r c.args.position)
    = rw (c.instance.ensures, c.flanks_at-place.ensures, c.requires.second) at v.value in
    let many = as_many (visits_of c.args.trees.now) c.args.second.now.route c.args.second.now.stops.now c.requires.second in
    let fits : c.args.position ≤ length r = omega (arith, many, c.if-position-second.false) in
    rw (one, other, both) (fits, ap (λ z. l +ℤ z) value)
