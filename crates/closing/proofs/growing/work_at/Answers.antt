use Rattle.leaf_work.specs.Children.{AreChildren}
use Rattle.leaf_work.specs.Splitting.{IsSplitOrDecided}
use Rattle.closing.proofs.Grown.{same_split}
use Rattle.closing.proofs.growing.work_at.Goals as goal

pub returns-clause-split : goal.returns-clause-split
returns-clause-split c =
    let split : IsSplitOrDecided c.args.raised.now.priced c.in-Ok-Split.field-0 = c.in-Ok-Split.ensures.split in
    let are : AreChildren c.args.raised.now.priced c.in-Ok-Split.children = rw c.in-Ok-Split.field-0-is at split in
    same_split c.args.raised.now.priced c.args.growth.now _ c.split.new.self c.in-Ok-Split.children c.in_ok-offer_routes.ensures.same (record {
      children = are;
      task = c.split.ensures.task;
      nodes = c.split.ensures.nodes;
      leaves = c.split.ensures.leaves;
      bound = c.split.ensures.bound;
    })
