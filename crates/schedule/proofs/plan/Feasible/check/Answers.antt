use Rattle.solomon_reader.proofs.Planning.{no_plan}
use Rattle.schedule.proofs.plan.Feasible.check.Goals as goal

pub returns-in-Err-clause-refused : goal.returns-in-Err-clause-refused
returns-in-Err-clause-refused c = rw c.as_slice.ensures.value at (no_plan _ _ _ c.in-Err.ensures.fault)
