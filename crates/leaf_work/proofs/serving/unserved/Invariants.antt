use Rattle.std.proofs.Common.{ℕ, ◌<◌, ◌≤◌}
use Rattle.solomon_reader.specs.Plan.{count_of}
use Rattle.solomon_reader.specs.Lists.{lists}
use Rattle.solomon_reader.specs.PlanDefects.{stops}
use Rattle.leaf_work.proofs.serving.unserved.Given as goal

abbrev pub invariant-loop-customer : goal.invariant-loop-customer
invariant-loop-customer l = (i : ℕ) → 1 ≤ i → i < l.customer → 1 ≤ count_of i (stops (lists l.routes))
