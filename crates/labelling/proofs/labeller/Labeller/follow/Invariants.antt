use Rattle.labelling.specs.Search.{Continues}
use Rattle.labelling.proofs.labeller.Labeller.follow.Given as goal

abbrev pub invariant-loop-stop : goal.invariant-loop-stop
invariant-loop-stop l = Continues l.initial.self l.self
