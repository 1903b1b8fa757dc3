use Rattle.std.proofs.Common.{◌≡◌, length}
use Rattle.tree_bound.specs.Leaves.{IsSweptIn}
use Rattle.tree_bound.proofs.work.sweep.Given as goal

abbrev pub invariant-loop-load : goal.invariant-loop-load
invariant-loop-load l = record {
  leaf : l.task.leaf ≡ l.initial.task.leaf;
  limit : l.task.limit ≡ l.initial.task.limit;
  swept : IsSweptIn l.task l.table.buckets.items l.settled l.load l.best;
  same : length l.table.buckets.items ≡ length l.initial.table.buckets.items;
}
