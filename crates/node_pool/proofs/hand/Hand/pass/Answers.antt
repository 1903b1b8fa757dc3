use Rattle.std.proofs.Common.{arith}
use Rattle.node_pool.proofs.Moves.{deals}
use Rattle.node_pool.proofs.hand.Hand.pass.Goals as goal

pub another-requires : goal.another-requires
another-requires c = let parts = c.args.self.now.fits.3 in let few = c.requires in deals _ _ (omega arith)
