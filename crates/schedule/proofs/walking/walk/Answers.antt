use Rattle.std.proofs.Common.{rules, refl, arith}
use Rattle.std.proofs.lemmas.Bool.Decides.{nat_tests}
use Rattle.solomon_reader.proofs.StepLemmas.{refused, walked_more, closed, fitting, finishes}
use Rattle.schedule.proofs.walking.walk.Goals as goal

pub returns-in_err-vehicle-clause-none : goal.returns-in_err-vehicle-clause-none
returns-in_err-vehicle-clause-none c =
    let refusal = refused c.args.instance.now c.args.visits.now c.loop-stop.stop-index c.loop-stop.vehicle.at c.loop-stop.vehicle.time c.loop-stop.vehicle.cost c.loop-stop.vehicle.load _
    c.loop-stop.invariant c.loop-stop-test.true refl c.in_err-vehicle.ensures.none in
    rw c.from_residual.ensures refusal

pub loop-stop-preserved : goal.loop-stop-preserved
loop-stop-preserved c =
    let moved = walked_more c.args.instance.now c.args.visits.now c.loop-stop.stop-index c.loop-stop.vehicle.at c.loop-stop.vehicle.time c.loop-stop.vehicle.cost c.loop-stop.vehicle.load _
    c.loop-stop.invariant c.loop-stop-test.true refl (c.are_customers.ensures.known (search rules) _ 0 c.loop-stop-test.true) c.in_ok-vehicle.ensures.served
    (omega (arith, c.in_ok-vehicle.ensures.bound, c.in_ok-vehicle.ensures.time)) in
    rw (c.in_ok-vehicle.ensures.at, c.in_ok-vehicle.ensures.time, c.in_ok-vehicle.ensures.cost, c.in_ok-vehicle.ensures.load) moved

pub returns-then-finish-due-clause-none : goal.returns-then-finish-due-clause-none
returns-then-finish-due-clause-none c = closed _ _ _ _ _ _ _ c.loop-stop.invariant (omega arith) (omega arith)

pub returns-clause-fits : goal.returns-clause-fits
returns-clause-fits c = fitting _ _ _ _ _ _ _ c.loop-stop.invariant (omega arith) (grind (arith, nat_tests)) (c.are_customers.ensures.known (search rules)) (omega arith)

pub returns-clause-finish : goal.returns-clause-finish
returns-clause-finish c =
    rw (c.from-2.ensures, c.get-arc.ensures.value, c.distance.ensures.value) (finishes _ _ _ _ _ _ _ c.loop-stop.invariant (omega arith) (omega arith))
