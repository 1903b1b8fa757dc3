use Rattle.std.proofs.Common.{◌≡◌, ◌+◌, take}
use Rattle.solomon_reader.specs.Plan.{load_of}
use Rattle.checker.proofs.walking.is_within_capacity.Given as goal

abbrev pub invariant-loop-stop : goal.invariant-loop-stop
invariant-loop-stop l = load_of l.instance (take l.stop-index l.stops) + l.left ≡ l.instance.capacity
