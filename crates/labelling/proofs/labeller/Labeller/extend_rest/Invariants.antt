use Rattle.labels.specs.Arena.{NonePending}
use Rattle.labelling.specs.Search.{Continues}
use Rattle.labelling.proofs.labeller.Labeller.extend_rest.Given as goal

abbrev pub invariant-loop-index : goal.invariant-loop-index
invariant-loop-index l = record {
  on : Continues l.initial.self l.self;
  none : NonePending l.self.labels.items l.index;
}
