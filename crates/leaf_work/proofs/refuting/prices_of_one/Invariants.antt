use Rattle.std.proofs.Common.{◌≡◌, ◌+◌, length}
use Rattle.std.specs.List.{AllByRecursion}
use Rattle.solomon_reader.specs.CertificateText.{IsPrice}
use Rattle.leaf_work.proofs.refuting.prices_of_one.Given as goal

abbrev pub invariant-loop-other : goal.invariant-loop-other
invariant-loop-other l = record {
  count : length l.prices.items + 1 ≡ l.other;
  in_range : AllByRecursion IsPrice l.prices.items;
}
