use Rattle.std.proofs.Common.{take}
use Rattle.solomon_reader.specs.Plan.{load_of}
use Rattle.solomon_reader.proofs.StepLemmas.{Walked}
use Rattle.checker.proofs.walking.drive.Given as goal

abbrev pub invariant-loop-stop : goal.invariant-loop-stop
invariant-loop-stop l = Walked l.instance l.stops l.stop-index l.vehicle.stop l.vehicle.ready l.vehicle.cost (load_of l.instance (take l.stop-index l.stops))
