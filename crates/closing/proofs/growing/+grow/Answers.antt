use Rattle.closing.specs.Growing.{Splits}
use Rattle.closing.proofs.Grown.{split_grows}
use Rattle.closing.proofs.growing.+grow.Goals as goal

pub returns-clause-grows : goal.returns-clause-grows
returns-clause-grows t c =
    let splits : Splits c.args.leaf c.args.growth.now c.raise_and_work.new.growth c.in-Some.children = rw c.in-Some.is at c.in_ok-children.ensures.split in
    let last = c.in_ok-list_split.ensures in
    split_grows c.args.leaf c.in-Some.children _ _ _ _ _ splits c.in_ok-grow.ensures.grows c.in_ok-grow-2.ensures.grows
    (record { task = last.task; nodes = last.nodes; leaves = last.leaves; bound = last.bound })
