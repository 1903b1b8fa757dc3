use Rattle.std.proofs.Common.{refl, arith}
use Rattle.std.proofs.lemmas.List.Sums.{sum_by_more_le}
use Rattle.std.proofs.lemmas.List.Elements.{recursion_from_All}
use Rattle.solomon_reader.specs.Problem.{IsCustomer, demand}
use Rattle.solomon_reader.proofs.StepLemmas.{refused, walked_more, closed, fitting}
use Rattle.checker.proofs.walking.drive.Goals as goal

pub returns-in_err-vehicle-clause-late : goal.returns-in_err-vehicle-clause-late
returns-in_err-vehicle-clause-late c =
    let known = recursion_from_All (IsCustomer c.args.instance.now) c.args.stops.now c.requires.known in
    let unfit = refused c.args.instance.now c.args.stops.now c.loop-stop.stop-index c.loop-stop.vehicle.stop c.loop-stop.vehicle.ready c.loop-stop.vehicle.cost _ _
    c.loop-stop.invariant c.loop-stop-test.true refl (λ can. omega (arith, can.timely, c.in_err-vehicle.ensures.late)) in
    rw c.from_residual.ensures (λ walk. unfit (record { some = c.requires.some; known = known; load = c.requires.light; walk = walk }))

pub loop-stop-preserved : goal.loop-stop-preserved
loop-stop-preserved c =
    let p = c.args.instance.now in
    let light = sum_by_more_le (demand p) c.args.stops.now c.loop-stop.stop-index 0 c.loop-stop-test.true in
    let moved = walked_more p c.args.stops.now c.loop-stop.stop-index c.loop-stop.vehicle.stop c.loop-stop.vehicle.ready c.loop-stop.vehicle.cost _ _
    c.loop-stop.invariant c.loop-stop-test.true refl (c.requires.known _ 0 c.loop-stop-test.true)
    (record { light = omega (arith, c.requires.light, light); timely = c.in_ok-vehicle.ensures.timely })
    (omega (arith, c.in_ok-vehicle.ensures.soon, c.in_ok-vehicle.ensures.ready)) in
    rw (c.in_ok-vehicle.ensures.stop, c.in_ok-vehicle.ensures.ready, c.in_ok-vehicle.ensures.cost) (rw moved.load_is at moved)

pub returns-then-vehicle-arc-clause-late : goal.returns-then-vehicle-arc-clause-late
returns-then-vehicle-arc-clause-late c =
    let known = recursion_from_All (IsCustomer c.args.instance.now) c.args.stops.now c.requires.known in
    let unfit = closed _ _ _ _ _ _ _ c.loop-stop.invariant (omega arith) (omega arith) in
    λ walk. unfit (record { some = c.requires.some; known = known; load = c.requires.light; walk = walk })

pub returns-clause-fits : goal.returns-clause-fits
returns-clause-fits c = fitting _ _ _ _ _ _ _ c.loop-stop.invariant (omega arith) c.requires.some c.requires.known (omega arith)
