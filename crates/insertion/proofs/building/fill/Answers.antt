use Rattle.insertion.proofs.Taking.{fills_more}
use Rattle.insertion.proofs.building.fill.Goals as goal

pub loop-proposal-preserved : goal.loop-proposal-preserved
loop-proposal-preserved c =
    fills_more _ _ _ _ _ _ c.in-Some.proposal.unrouted c.in-Some.proposal.position c.index-customer.result.now _ _ _ c.loop-proposal.invariant
    (rw c.deref.ensures.value at c.in-Some.ensures.customer) c.index-customer.ensures
    (rw c.in-Some-2.is at c.in_ok-longer.ensures.instance) (rw c.in-Some-2.is at c.in_ok-longer.ensures.fits) (rw c.in-Some-2.is at c.in_ok-longer.ensures.visits) c.remove.ensures.items
