use Rattle.std.proofs.Common.{◌≡◌, ◌≤◌}
use Rattle.closing.proofs.first.search_from.Given as goal

abbrev pub invariant-loop-made : goal.invariant-loop-made
invariant-loop-made g l = (l.searcher.held.plan.problem ≡ l.fn.plan.problem) × (l.searcher.held.plan.cost ≤ l.fn.plan.cost)
