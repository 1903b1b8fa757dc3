use Rattle.tree_bound.specs.Leaves.{IsWorkedIn}
use Rattle.tree_bound.proofs.work.work_labels.Given as goal

abbrev pub invariant-loop-label : goal.invariant-loop-label
invariant-loop-label l = IsWorkedIn l.task l.table.buckets.items l.settled l.load l.labels l.label-index l.best
