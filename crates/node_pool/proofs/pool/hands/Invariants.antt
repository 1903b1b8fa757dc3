use Rattle.std.specs.Prelude.{◌≡◌, vec_len}
use Rattle.std.specs.List.{All}
use Rattle.node_pool.specs.Deques.{AreNumbered}
use Rattle.node_pool.specs.Ends.{IsEmptyHand, deques_of}
use Rattle.node_pool.proofs.pool.hands.Given as goal

abbrev pub invariant-loop-number : goal.invariant-loop-number
invariant-loop-number l = (vec_len l.hands ≡ l.number) × All (IsEmptyHand 0 l.capacity) l.hands.items × AreNumbered (deques_of l.hands.items)
