use Rattle.std.proofs.Common.{arith}
use Rattle.node_pool.proofs.Moves.{takes}
use Rattle.node_pool.proofs.thief.Thief.steal_by.Goals as goal

pub steal_as-requires-clause-takes : goal.steal_as-requires-clause-takes
steal_as-requires-clause-takes c = let part = c.requires.1 in takes _ _ (omega arith)
