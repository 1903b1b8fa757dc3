use Rattle.std.proofs.Common.{◌<◌, arith, length, sym, ◌∙◌}
use Rattle.row_charges.proofs.Stopping.{near_of, found_at}
use Rattle.row_charges.proofs.stop.is_near.Goals as goal

pub returns-in-Some : goal.returns-in-Some
returns-in-Some c =
    let found = rw c.from.ensures at c.in-Some.ensures.lookup in
    let here = found_at c.args.places.now c.args.u c.in-Some.place.now 0 (sym found.0) found.1 in
    let within : c.args.u < length c.args.instance.now.rows = omega (arith, here.0, c.requires.places.count) in
    near_of c.args.instance.now c.args.neighbours c.args.v c.args.u c.in-Some.place.now c.requires.few (here.1 ∙ c.requires.places.each c.args.u within)
