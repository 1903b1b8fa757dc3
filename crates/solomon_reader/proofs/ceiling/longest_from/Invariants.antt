use Rattle.std.proofs.Common.{◌≡◌, ◌≤◌, map}
use Rattle.std.specs.List.{range_with_len}
use Rattle.solomon_reader.specs.Distance.{distance}
use Rattle.solomon_reader.specs.Bound.{greatest_of}
use Rattle.solomon_reader.specs.declared.limits.TheConstants.{MOST_DISTANCE}
use Rattle.solomon_reader.proofs.ceiling.longest_from.Given as goal

abbrev pub invariant-loop-j : goal.invariant-loop-j
invariant-loop-j l = (l.longest ≡ greatest_of (map (λ j. distance l.instance l.i j) (range_with_len 0 l.j))) × (l.longest ≤ MOST_DISTANCE)
