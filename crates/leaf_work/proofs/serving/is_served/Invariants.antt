use Rattle.std.proofs.Common.{◌≡◌, drop}
use Rattle.solomon_reader.specs.Plan.{count_of}
use Rattle.solomon_reader.specs.Lists.{lists}
use Rattle.solomon_reader.specs.PlanDefects.{stops}
use Rattle.leaf_work.proofs.serving.is_served.Given as goal

abbrev pub invariant-loop-route : goal.invariant-loop-route
invariant-loop-route l = count_of l.customer (stops (lists l.routes)) ≡ count_of l.customer (stops (lists (drop l.route-index l.routes)))
