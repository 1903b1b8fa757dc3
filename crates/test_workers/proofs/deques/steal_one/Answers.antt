use Rattle.test_workers.proofs.deques.steal_one.Goals as goal

pub returns-in-One : goal.returns-in-One
returns-in-One c = c.steal.ensures.same _ c.loop.invariant

pub loop-preserved : goal.loop-preserved
loop-preserved c = c.steal.ensures.same _ c.loop.invariant
