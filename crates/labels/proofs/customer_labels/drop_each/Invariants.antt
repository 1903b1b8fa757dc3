use Rattle.labels.specs.Domination.{IsPrunedIn}
use Rattle.labels.proofs.customer_labels.drop_each.Given as goal

abbrev pub invariant-loop-entry : goal.invariant-loop-entry
invariant-loop-entry l = IsPrunedIn l.completions l.initial.labels l.labels l.label
