use Rattle.tree_bound.proofs.Working.{worked_passed, worked_more}
use Rattle.tree_bound.proofs.work.work_labels.Goals as goal
use Rattle.tree_bound.proofs.work.work_labels.Goals.{then-is_open+in_ok-best+in_ok-settle, else-is_open}

pub loop-label-preserved : goal.loop-label-preserved
loop-label-preserved c = elim c.if-is_open.branch [
  | then-is_open+in_ok-best+in_ok-settle w ↦ rw (w.table-is, w.best-is, w.settled-is, w.in_ok-settle.ensures.table)
      (worked_more _ _ c.loop-label.table.buckets.items c.loop-label.settled c.args.load c.args.labels.now c.loop-label.label-index c.loop-label.best c.loop-label.invariant _ _ _
      (c.requires.labels.each c.loop-label.label-index c.loop-label-test.true (c.is_open.ensures.open w.if-is_open.true)) w.in_ok-best.ensures w.in_ok-settle.ensures.kept)
  | else-is_open w ↦ rw (w.table-is, w.best-is, w.settled-is)
      (worked_passed _ _ c.loop-label.table.buckets.items c.loop-label.settled c.args.load c.args.labels.now c.loop-label.label-index c.loop-label.best c.loop-label.invariant
      (c.is_open.ensures.passed w.if-is_open.false))
]
