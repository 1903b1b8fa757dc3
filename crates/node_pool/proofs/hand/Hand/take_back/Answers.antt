use Rattle.node_pool.proofs.Moves.{merges, spends}
use Rattle.node_pool.proofs.hand.Hand.take_back.Goals as goal

pub another-spent-requires : goal.another-spent-requires
another-spent-requires c = spends _ _

pub absorb-requires-clause-rule : goal.absorb-requires-clause-rule
absorb-requires-clause-rule c = merges _ _ _ _
