use Rattle.std.proofs.Common.{◌≡◌, ◌*◌, ◌≤◌, take}
use Rattle.solomon_reader.specs.Plan.{plan_cost}
use Rattle.solomon_reader.specs.Lists.{lists}
use Rattle.solomon_reader.specs.declared.limits.TheConstants.{MOST_TIME}
use Rattle.schedule.proofs.finding.total_cost.Given as goal

abbrev pub invariant-loop-route : goal.invariant-loop-route
invariant-loop-route l = (l.cost ≡ plan_cost l.instance (lists (take l.route-index l.routes))) × (l.cost ≤ 10 * MOST_TIME * l.route-index)
