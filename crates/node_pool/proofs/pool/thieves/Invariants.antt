use Rattle.std.specs.Prelude.{◌≡◌, take}
use Rattle.node_pool.specs.Ends.{deques_at, deques_of}
use Rattle.node_pool.proofs.pool.thieves.Given as goal

abbrev pub invariant-loop-hand : goal.invariant-loop-hand
invariant-loop-hand l = deques_at l.thieves.items ≡ deques_of (take l.hand-index l.hands)
