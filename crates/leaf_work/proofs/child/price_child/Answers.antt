use Rattle.prices.proofs.Narrower.{priced_through}
use Rattle.leaf_work.proofs.child.price_child.Goals as goal

pub returns-clause-priced : goal.returns-clause-priced
returns-clause-priced c = priced_through c.args.region.now c.args.leaf.now c.in_ok-child.child c.price_high.result c.in_ok-child.ensures.priced c.price_high.ensures.priced
