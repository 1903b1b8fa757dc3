use Rattle.solomon_reader.specs.Lists.{lists}
use Rattle.leaf_work.specs.Gathering.{IsGathered}
use Rattle.leaf_work.proofs.gathering.gather.Given as goal

abbrev pub invariant-loop-customer : goal.invariant-loop-customer
invariant-loop-customer l =
    IsGathered l.instance l.region l.customer 0 l.prices.items (lists l.routes.items) × IsGathered l.instance l.region l.customer l.fee l.raised.items (lists l.routes.items)
