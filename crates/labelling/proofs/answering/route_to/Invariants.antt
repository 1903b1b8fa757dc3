use Rattle.std.proofs.Common.{◌≡◌, ◌-◌, ◌<◌, ◌++◌, length, reverse}
use Rattle.labels.specs.Arena.{trace}
use Rattle.labelling.proofs.answering.route_to.Given as goal

abbrev pub invariant-loop-taken : goal.invariant-loop-taken
invariant-loop-taken l = record {
  parent : l.label.parent < length l.labels;
  split : trace l.labels (l.initial.label.stops - l.taken) l.label ++ reverse l.route.items ≡ trace l.labels l.initial.label.stops l.initial.label;
}
