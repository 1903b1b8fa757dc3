use Rattle.leaf_arcs.specs.Leaves.{pricing_of}
use Rattle.tree_bound.specs.Steps.{TakesSteps}
use Rattle.tree_bound.proofs.steps.take_steps.Given as goal

abbrev pub invariant-loop-arc : goal.invariant-loop-arc
invariant-loop-arc l = TakesSteps (pricing_of l.task.leaf) l.best l.initial.table.buckets.items l.table.buckets.items l.load l.label l.arcs l.arc-index
