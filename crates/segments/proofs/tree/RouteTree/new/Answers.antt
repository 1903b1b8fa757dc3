use Rattle.segments.proofs.TreeLevels.{no_levels}
use Rattle.segments.proofs.tree.RouteTree.new.Goals as goal

pub levels_with-requires-clause-tree : goal.levels_with-requires-clause-tree
levels_with-requires-clause-tree g c = record {
  levels = rw (c.new.ensures.items, c.new-2.ensures.items) (no_levels (g.L.Linked.op c.args.context.now));
  law = g.met.L.Linked.law c.args.context.now;
}

pub returns-in-Ok-clause-tree : goal.returns-in-Ok-clause-tree
returns-in-Ok-clause-tree g c = record {
  levels = rw c.as_slice.ensures.value at c.in-Ok.ensures;
  law = g.met.L.Linked.law c.args.context.now;
}
