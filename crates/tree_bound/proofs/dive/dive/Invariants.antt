use Rattle.std.proofs.Common.{None}
use Rattle.leaf_arcs.specs.Leaves.{pricing_of}
use Rattle.tree_bound.specs.Cover.{IsFound}
use Rattle.tree_bound.specs.Labels.{IsLabel}
use Rattle.tree_bound.proofs.dive.dive.Given as goal

abbrev pub invariant-loop-stop : goal.invariant-loop-stop
invariant-loop-stop l = record {
  label : IsLabel (pricing_of l.task.leaf) l.load l.label;
  found : IsFound (pricing_of l.task.leaf) None l.best;
}
