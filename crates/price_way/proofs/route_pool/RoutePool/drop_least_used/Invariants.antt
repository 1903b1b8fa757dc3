use Rattle.std.proofs.Common.{◌≤◌}
use Rattle.price_way.proofs.route_pool.RoutePool.drop_least_used.Given as goal

abbrev pub invariant-loop-i : goal.invariant-loop-i
invariant-loop-i l = l.least ≤ l.i
