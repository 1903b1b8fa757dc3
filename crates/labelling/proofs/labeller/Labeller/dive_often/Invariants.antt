use Rattle.labelling.specs.Search.{Continues}
use Rattle.labelling.proofs.labeller.Labeller.dive_often.Given as goal

abbrev pub invariant-loop-dive : goal.invariant-loop-dive
invariant-loop-dive l = Continues l.initial.self l.self
