use Rattle.std.proofs.Common.{arith}
use Rattle.std.proofs.Math.ListN.{length-map}
use Rattle.solomon_reader.proofs.Planning.{after_late, is_plan}
use Rattle.schedule.proofs.finding.cost_or_fault.Goals as goal

pub returns-then-routes-from-clause-fault : goal.returns-then-routes-from-clause-fault
returns-then-routes-from-clause-fault c =
    let served = c.in_ok-serve_once.ensures in
    record {
      holds = omega (arith, length-map c.args.routes.now (λ v. v.items));
      lowest = after_late _ _ served.some served.known (λ i h. omega (arith, served.once i h)) (λ i h. omega (arith, served.once i h))
          (λ k d h. (c.in_ok-cost.ensures.fitting k d h).load) c.in_ok-cost.ensures.fitting;
    }

pub returns-clause-plan : goal.returns-clause-plan
returns-clause-plan c =
    let served = c.in_ok-serve_once.ensures in
    is_plan _ _ served.known c.in_ok-cost.ensures.fitting (λ i h. omega (arith, served.once i h)) (λ i h. omega (arith, served.once i h)) (omega arith)
