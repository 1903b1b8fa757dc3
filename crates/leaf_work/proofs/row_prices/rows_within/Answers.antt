use Rattle.leaf_work.proofs.RowPrices.{written_priced, written_sum, written_few}
use Rattle.leaf_work.proofs.row_prices.rows_within.Goals as goal
use Rattle.leaf_work.proofs.row_prices.rows_within.Goals.{then-may_follow+in_ok-push, else-may_follow}

pub loop-row-preserved : goal.loop-row-preserved
loop-row-preserved c = elim c.if-may_follow.branch [
  | then-may_follow+in_ok-push w ↦
      let may = rw c.as_slice.ensures.value at (c.may_follow.ensures w.if-may_follow.true) in
      rw (w.rows-is, w.left-is, w.in_ok-push.ensures.items) (record {
        few = written_few _ _ c.loop-row.rows.items _ may;
        sum = written_sum _ _ _ c.loop-row.rows.items _ may c.loop-row.invariant.sum;
        priced = written_priced _ _ c.loop-row.rows.items _ c.loop-row.invariant.priced may;
      })
  | else-may_follow w ↦ rw (w.rows-is, w.left-is) c.loop-row.invariant
]
