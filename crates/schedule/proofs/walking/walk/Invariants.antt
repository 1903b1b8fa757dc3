use Rattle.solomon_reader.proofs.StepLemmas.{Walked}
use Rattle.schedule.proofs.walking.walk.Given as goal

abbrev pub invariant-loop-stop : goal.invariant-loop-stop
invariant-loop-stop l = Walked l.instance l.visits l.stop-index l.vehicle.at l.vehicle.time l.vehicle.cost l.vehicle.load
