use Rattle.std.proofs.Common.{◌≡◌, ◌-◌}
use Rattle.std.specs.List.{AllByRecursion}
use Rattle.solomon_reader.specs.CertificateText.{IsPrice}
use Rattle.prices.proofs.Improvements.{stepped_to}
use Rattle.prices.proofs.stepping.prices_after.Given as goal

abbrev pub invariant-loop-customer : goal.invariant-loop-customer
invariant-loop-customer l = record {
  in_range : AllByRecursion IsPrice l.prices.items;
  stepped : l.prices.items ≡ stepped_to l.fn.step l.route l.old (l.customer - 1);
}
