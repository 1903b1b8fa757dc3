use Rattle.labelling.specs.Search.{Continues}
use Rattle.labelling.proofs.labeller.Labeller.extend_slot.Given as goal

abbrev pub invariant-loop-label : goal.invariant-loop-label
invariant-loop-label l = Continues l.initial.self l.self
