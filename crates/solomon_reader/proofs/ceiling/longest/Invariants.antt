use Rattle.std.proofs.Common.{◌≡◌, ◌≤◌, map, length}
use Rattle.std.specs.List.{range_with_len, flat_map}
use Rattle.solomon_reader.specs.Distance.{distance}
use Rattle.solomon_reader.specs.Bound.{greatest_of}
use Rattle.solomon_reader.specs.declared.limits.TheConstants.{MOST_DISTANCE}
use Rattle.solomon_reader.proofs.ceiling.longest.Given as goal

abbrev pub invariant-loop-i : goal.invariant-loop-i
invariant-loop-i l =
    (l.longest ≡ greatest_of (flat_map (λ i. map (λ j. distance l.instance i j) (range_with_len 0 (length l.instance.rows))) (range_with_len 0 l.i))) × (l.longest ≤ MOST_DISTANCE)
