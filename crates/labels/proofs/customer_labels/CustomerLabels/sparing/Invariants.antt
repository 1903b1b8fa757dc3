use Rattle.std.specs.List.{All}
use Rattle.labels.specs.Sparing.{IsSparingIn}
use Rattle.labels.proofs.customer_labels.CustomerLabels.sparing.Given as goal

abbrev pub invariant-loop-group : goal.invariant-loop-group
invariant-loop-group l = All (IsSparingIn l.completions l.labels l.label) l.memories.items
