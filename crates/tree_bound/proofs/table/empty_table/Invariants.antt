use Rattle.std.proofs.Common.{◌≡◌, [], replicate}
use Rattle.tree_bound.proofs.table.empty_table.Given as goal

abbrev pub invariant-loop-made : goal.invariant-loop-made
invariant-loop-made l = l.buckets.items ≡ replicate l.made []
