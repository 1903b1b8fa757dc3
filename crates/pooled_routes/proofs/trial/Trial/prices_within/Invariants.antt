use Rattle.std.proofs.Common.{◌≡◌, ◌+◌, ◌≤◌, length}
use Rattle.std.specs.Prelude.{nat_abs}
use Rattle.std.specs.List.{AllByRecursion}
use Rattle.pooled_routes.proofs.trial.Trial.prices_within.Given as goal

abbrev pub invariant-loop-customer : goal.invariant-loop-customer
invariant-loop-customer l = record {
  count : length l.prices.items + 1 ≡ l.customer;
  within : AllByRecursion (λ z. nat_abs z ≤ l.most) l.prices.items;
}
