use Rattle.search.proofs.Steps.{descends_next}
use Rattle.search.proofs.descent.descend.Goals as goal

pub loop-next-preserved : goal.loop-next-preserved
loop-next-preserved c = descends_next c.args.plan.now c.loop-next.plan c.in-Some.next c.loop-next.invariant (rw c.in-Some.is at c.in_ok-next.ensures.lower)
