use Rattle.node_pool.proofs.Moves.{takes}
use Rattle.node_pool.proofs.hand.Hand.pop.Goals as goal

pub pop_as-requires-clause-fifo : goal.pop_as-requires-clause-fifo
pop_as-requires-clause-fifo c = λ _. takes _ _ c.args.self.now.fits.2
