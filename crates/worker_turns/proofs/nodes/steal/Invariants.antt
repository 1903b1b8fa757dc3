use Rattle.std.specs.List.{All}
use Rattle.node_pool.specs.Deques.{FitsAt}
use Rattle.node_pool.specs.Ends.{deque_at}
use Rattle.worker_turns.proofs.nodes.steal.Given as goal

-- the pass is still one of these deques
abbrev pub invariant-loop-deque : goal.invariant-loop-deque
invariant-loop-deque l = All (λ t. FitsAt (deque_at t) l.pass) l.deques
