use Rattle.branching.proofs.Consistency.{root_consistent}
use Rattle.branching.proofs.region.Region.root.Goals as goal

pub invariant_of-result : goal.invariant_of-result
invariant_of-result c = rw (c.new.ensures.items, c.new-2.ensures.items) (root_consistent c.args.size)
