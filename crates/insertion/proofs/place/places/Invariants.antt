use Rattle.std.proofs.Common.{◌≡◌, ◌*◌, ◌<◌, ◌≤◌, length}
use Rattle.std.specs.List.{All}
use Rattle.solomon_reader.specs.declared.limits.TheConstants.{MOST_TIME}
use Rattle.insertion.specs.Places.{IsBoundedPlace}
use Rattle.insertion.proofs.place.places.Given as goal

abbrev pub invariant-loop-stop : goal.invariant-loop-stop
invariant-loop-stop l = record {
  before : l.before < length l.instance.rows;
  leaves : l.leaves ≤ 20 * MOST_TIME;
  known : All (λ g. IsBoundedPlace l.instance g) l.places.items;
  count : length l.places.items ≡ l.stop-index;
}
