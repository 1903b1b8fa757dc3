use Rattle.labels.specs.Domination.{IsPrunedIn}
use Rattle.labels.proofs.customer_labels.CustomerLabels.drop_dominated.Given as goal

abbrev pub invariant-loop-group : goal.invariant-loop-group
invariant-loop-group l = IsPrunedIn l.completions l.initial.labels l.labels l.label
