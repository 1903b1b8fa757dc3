use Rattle.std.proofs.Common.{◌≡◌, length, arith}
use Rattle.tree_bound.proofs.work.sweep.Goals as goal

pub returns : goal.returns
returns c =
    let all : c.loop-load.load ≡ length c.loop-load.table.buckets.items = omega arith in
    (c.loop-load.settled, rw (c.loop-load.invariant.leaf, c.loop-load.invariant.limit, all) at c.loop-load.invariant.swept)
