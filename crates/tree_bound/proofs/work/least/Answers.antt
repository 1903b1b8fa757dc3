use Rattle.std.proofs.Common.{arith}
use Rattle.tree_bound.proofs.Working.{begun_table, swept_begun, least_swept}
use Rattle.tree_bound.proofs.work.least.Goals as goal

pub work_label-requires-clause-table : goal.work_label-requires-clause-table
work_label-requires-clause-table c = rw (c.in_ok-table.ensures, c.capacity-capacity.ensures.value) (begun_table _)

pub sweep-requires : goal.sweep-requires
sweep-requires c = swept_begun _ _ c.beginning-start.result c.beginning-start.ensures.same _ _ _
    (rw c.capacity-capacity.ensures.value at c.in_ok-table.ensures) c.beginning-start.ensures.active c.beginning-start.ensures.label c.in_ok-best.ensures

pub returns : goal.returns
returns c = least_swept _ _ _ c.in_ok-cost.ensures.0 _ _ (omega arith) c.in_ok-cost.ensures.1
