use Rattle.labelling.specs.Search.{Continues}
use Rattle.labelling.proofs.labeller.Labeller.extend_by_time.Given as goal

abbrev pub invariant-loop-slot : goal.invariant-loop-slot
invariant-loop-slot l = Continues l.initial.self l.self
