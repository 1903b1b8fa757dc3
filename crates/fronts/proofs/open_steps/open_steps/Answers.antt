use Rattle.std.proofs.Common.{arith}
use Rattle.fronts.specs.Payments.{paid_by}
use Rattle.fronts.specs.Steps.{IsOpenList}
use Rattle.fronts.proofs.Stepping.{open_list}
use Rattle.fronts.proofs.Listed.{table_more}
use Rattle.fronts.proofs.open_steps.open_steps.Goals as goal

pub loop-v-preserved : goal.loop-v-preserved
loop-v-preserved c =
    let near = c.args.nearness.now in
    rw c.in_ok-push.ensures.items (table_more (IsOpenList near.instance.now near.neighbours (paid_by c.args.payment.now) c.args.rows.now) c.loop-v.v c.in_ok-steps.steps c.loop-v.table.items c.loop-v.invariant
    (open_list near.instance.now near.neighbours (paid_by c.args.payment.now) c.args.rows.now c.loop-v.v c.from-in-loop-v.result c.index-rows-from.result
    c.in_ok-steps.steps c.from-in-loop-v.ensures (omega arith) c.index-rows-from.is c.in_ok-steps.ensures))
