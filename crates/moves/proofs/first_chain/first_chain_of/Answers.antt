use Rattle.std.proofs.Common.{◌≡◌, ◌+◌, ◌∙◌, ap, refl, arith, to_z, of_z, w64}
use Rattle.std.proofs.lemmas.Int.{ints}
use Rattle.solomon_reader.specs.Moves.{route}
use Rattle.segments.specs.PlanTrees.{problem_of}
use Rattle.moves.specs.Trees.{visits_of}
use Rattle.moves.specs.Flanks.{flanks_of, taken_by, leaving_change}
use Rattle.moves.proofs.JoinedStops.{known_flanks, as_many}
use Rattle.moves.proofs.first_chain.first_chain_of.Goals as goal

pub change_of_leaving-requires-clause-front : goal.change_of_leaving-requires-clause-front
change_of_leaving-requires-clause-front c = rw (c.instance.ensures, c.flanks_at-front.ensures, c.stops_of-stops.ensures) (known_flanks c.args.trees.now c.args.numbers.route _ c.requires)

pub change_of_leaving-requires-clause-rear : goal.change_of_leaving-requires-clause-rear
change_of_leaving-requires-clause-rear c = rw (c.instance.ensures, c.flanks_at-rear.ensures, c.stops_of-stops.ensures) (known_flanks c.args.trees.now c.args.numbers.route _ c.requires)

pub returns : goal.returns
returns c =
    let t = c.args.trees.now in
    let f = c.args.numbers in
    let r = route (visits_of t) f.route in
    let l = taken_by c.args.kind f.length in
    let v = c.change_of_leaving.result in
    let many = as_many (visits_of t) f.route c.stops_of-stops.result.now c.stops_of-stops.ensures in
    let kept : to_z w64 (of_z w64 v) ≡ v = omega (arith, ints) in
    let to : c.from-from.result + c.from.result ≡ f.position + l = omega (arith, c.from-from.ensures, c.from.ensures, c.taken_by-taken.ensures) in
    let front : c.flanks_at-front.result ≡ flanks_of r f.position = rw (c.stops_of-stops.ensures, c.from-from.ensures) at c.flanks_at-front.ensures in
    let rear : c.flanks_at-rear.result ≡ flanks_of r (f.position + l) = (rw c.stops_of-stops.ensures at c.flanks_at-rear.ensures) ∙ ap (flanks_of r) to in
    let value : v ≡ leaving_change (problem_of t) c.flanks_at-front.result c.flanks_at-rear.result = rw c.instance.ensures at c.change_of_leaving.ensures.value in
    rw kept (
      refl,
      record {
        taken = c.taken_by-taken.ensures;
        stands = omega (arith, to, many, c.if-to-stops.false);
        front = front;
        rear = rear;
        leaving = value;
        small = c.change_of_leaving.ensures.small;
        known_front = rw front (known_flanks t f.route f.position c.requires);
        known_rear = rw rear (known_flanks t f.route (f.position + l) c.requires);
      },
    )
