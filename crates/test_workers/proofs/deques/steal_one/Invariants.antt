use Rattle.node_pool.specs.Deques.{FitsAt}
use Rattle.node_pool.specs.Ends.{deque_at}
use Rattle.test_workers.proofs.deques.steal_one.Given as goal

abbrev pub invariant-loop : goal.invariant-loop
invariant-loop l = FitsAt (deque_at l.thief) l.pass
