use Rattle.fronts.proofs.Stepping.{HaveBelow}
use Rattle.fronts.proofs.step.steps_from.Given as goal

abbrev pub invariant-loop-customer : goal.invariant-loop-customer
invariant-loop-customer l = HaveBelow l.instance l.neighbours l.v l.customer l.steps.items
