use Rattle.std.proofs.Common.{arith}
use Rattle.tree_bound.proofs.Working.{thinned_through}
use Rattle.tree_bound.proofs.bucket.drop_from.Goals as goal
use Rattle.tree_bound.proofs.bucket.drop_from.Goals.{then-not-is_subset, else-not-is_subset+then-drop_at, else-not-is_subset+else-drop_at}

pub loop-turn-preserved : goal.loop-turn-preserved
loop-turn-preserved c = elim c.if-not-is_subset.branch [
  | then-not-is_subset w ↦ rw (w.labels-is, w.at-is, w.entries-is) (record { thinned = c.loop-turn.invariant.thinned; within = omega (arith, c.if-at-len.false) })
  | else-not-is_subset+then-drop_at w ↦ rw (w.labels-is, w.at-is, w.entries-is) (record {
    thinned = thinned_through _ _ _ _ _ c.loop-turn.invariant.thinned w.drop_at.ensures;
    within = omega (arith, w.remove.ensures.len, c.if-at-len.false);
  })
  | else-not-is_subset+else-drop_at w ↦ rw (w.labels-is, w.at-is, w.entries-is) (record {
    thinned = thinned_through _ _ _ _ _ c.loop-turn.invariant.thinned w.drop_at.ensures;
    within = omega (arith, c.if-at-len.false);
  })
]
