use Rattle.std.proofs.Common.{◌≡◌, ◌≤◌, take}
use Rattle.solomon_reader.specs.Plan.{load_of}
use Rattle.schedule.proofs.finding.is_overloaded.Given as goal

abbrev pub invariant-loop-visit : goal.invariant-loop-visit
invariant-loop-visit l = (l.load ≡ load_of l.instance (take l.visit-index l.route)) × (l.load ≤ l.instance.capacity)
