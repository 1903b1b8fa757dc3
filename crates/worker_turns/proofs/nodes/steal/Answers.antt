use Rattle.std.proofs.lemmas.List.Elements.{All-weaker}
use Rattle.node_pool.specs.Deques.{FitsAt}
use Rattle.node_pool.specs.Ends.{deque_at}
use Rattle.worker_turns.proofs.nodes.steal.Goals as goal

pub returns-in-One : goal.returns-in-One
returns-in-One c = All-weaker (λ t. FitsAt (deque_at t) c.loop-deque.pass) (λ t. FitsAt (deque_at t) c.steal.new.pass)
    (λ t. c.steal.ensures.same (deque_at t)) c.args.deques.now c.loop-deque.invariant

pub loop-deque-preserved : goal.loop-deque-preserved
loop-deque-preserved c = All-weaker (λ t. FitsAt (deque_at t) c.loop-deque.pass) (λ t. FitsAt (deque_at t) c.steal.new.pass)
    (λ t. c.steal.ensures.same (deque_at t)) c.args.deques.now c.loop-deque.invariant
