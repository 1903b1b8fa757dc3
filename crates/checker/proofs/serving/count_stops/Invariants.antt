use Rattle.std.proofs.Common.{◌≡◌, ℕ, ◌<◌, List, ◌++◌, length, take, get_or}
use Rattle.solomon_reader.specs.Problem.{IsCustomer}
use Rattle.checker.specs.Counted.{AreCounted}
use Rattle.checker.proofs.serving.count_stops.Given as goal

abbrev pub invariant-loop-stop : goal.invariant-loop-stop
invariant-loop-stop l = record {
  count : length l.visits.items ≡ length l.initial.visits.items;
  known : (k d : ℕ) → k < l.stop-index → IsCustomer l.instance (get_or l.stops k d);
  counted : (before : List ℕ) → AreCounted before l.initial.visits.items → AreCounted (before ++ take l.stop-index l.stops) l.visits.items;
}
