use Rattle.std.proofs.Common.{ℕ, ◌≤◌, below_more}
use Rattle.solomon_reader.specs.Lists.{lists}
use Rattle.solomon_reader.specs.Plan.{count_of}
use Rattle.solomon_reader.specs.PlanDefects.{stops}
use Rattle.leaf_work.proofs.serving.unserved.Goals as goal

pub loop-customer-preserved : goal.loop-customer-preserved
loop-customer-preserved c i low high =
    below_more (λ (j : ℕ). 1 ≤ j → 1 ≤ count_of j (stops (lists c.args.routes.now))) _ (λ j h l. c.loop-customer.invariant j l h)
    (λ l. c.is_served.ensures.found c.if-not-is_served.false) i high low
