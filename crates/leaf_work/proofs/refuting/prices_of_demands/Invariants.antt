use Rattle.std.proofs.Common.{◌≡◌, ◌+◌, length}
use Rattle.std.specs.List.{AllByRecursion}
use Rattle.solomon_reader.specs.CertificateText.{IsPrice}
use Rattle.leaf_work.proofs.refuting.prices_of_demands.Given as goal

abbrev pub invariant-loop-customer : goal.invariant-loop-customer
invariant-loop-customer l = record {
  count : length l.prices.items + 1 ≡ l.customer;
  in_range : AllByRecursion IsPrice l.prices.items;
}
