use Rattle.branching.specs.Arcs.{pair}
use Rattle.given_tree.proofs.Replies.{split_keeps, split_done}
use Rattle.given_tree.proofs.splitting.split_with_prices.Goals as goal

pub returns-in-Ok-clause-keeps : goal.returns-in-Ok-clause-keeps
returns-in-Ok-clause-keeps c =
    split_keeps c.args.book.now c.split.new.self c.args.number 0 (pair c.args.arc) c.args.used c.args.unused c.in-Ok.numbers.0 c.in-Ok.numbers.1 c.in-Ok.ensures.splits

pub returns-in-Ok-clause-split : goal.returns-in-Ok-clause-split
returns-in-Ok-clause-split c =
    split_done c.args.book.now c.split.new.self c.args.number 0 (pair c.args.arc) c.args.used c.args.unused c.in-Ok.numbers.0 c.in-Ok.numbers.1 c.in-Ok.ensures.splits c.split.ensures.book
