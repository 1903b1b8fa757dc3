use Rattle.certificate.specs.Text.{version_of}
use Rattle.given_tree.specs.Nodes.{prices_of}
use Rattle.given_tree.proofs.Replies.{raised_low}
use Rattle.given_tree.proofs.leaf.grow_leaf.Goals as goal

pub returns-clause-raised : goal.returns-clause-raised
returns-clause-raised c =
    raised_low (version_of c.args.tree.now.version.now) c.args.book.now c.raise.new.book c.args.number (prices_of c.args.prices.now c.args.set_prices.now c.args.row_prices.now) c.in_ok-priced.priced c.raise.result
    c.requires.shaped.2 c.requires.shaped.3 c.in_ok-priced.ensures.priced c.raise.ensures.raised
