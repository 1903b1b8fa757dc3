use Rattle.search.specs.Searching.{DescendsTo}
use Rattle.search.proofs.descent.descend.Given as goal

abbrev pub invariant-loop-next : goal.invariant-loop-next
invariant-loop-next l = DescendsTo l.fn.plan l.plan

abbrev pub decreases-loop-next : goal.decreases-loop-next
decreases-loop-next l = l.plan.cost
