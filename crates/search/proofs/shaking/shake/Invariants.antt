use Rattle.std.proofs.Common.{◌≡◌}
use Rattle.search.specs.Searching.{IsShaken}
use Rattle.search.proofs.shaking.shake.Given as goal

abbrev pub invariant-loop : goal.invariant-loop
invariant-loop g l = (l.plan.problem ≡ l.fn.plan.problem) × IsShaken l.fn.plan.problem l.counter l.fn.plan.routes l.plan.routes
