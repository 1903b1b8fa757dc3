use Rattle.set_needs.specs.Latest.{IsLatestAt}
use Rattle.set_needs.proofs.Tables.{table_more}
use Rattle.set_needs.proofs.serving.latest_row.Goals as goal

pub loop-place-preserved : goal.loop-place-preserved
loop-place-preserved c = rw c.in_ok-push.ensures.items
    (table_more (IsLatestAt c.args.instance.now c.args.members.now c.args.mask) c.loop-place.place _ c.loop-place.row.items c.loop-place.invariant c.latest_for.ensures)
