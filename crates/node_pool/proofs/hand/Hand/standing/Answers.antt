use Rattle.std.proofs.Common.{arith}
use Rattle.node_pool.proofs.Moves.{learns}
use Rattle.node_pool.proofs.hand.Hand.standing.Goals as goal

pub len_as-requires : goal.len_as-requires
len_as-requires c = let parts = c.args.self.now.fits.3 in let none = c.requires in learns _ _ c.args.self.now.fits.1 (omega arith)
