use Rattle.std.proofs.Common.{◌∙◌, arith}
use Rattle.set_needs.specs.Quickest.{IsQuickestBelow}
use Rattle.set_needs.proofs.Tables.{table_more}
use Rattle.set_needs.proofs.Detours.{direct}
use Rattle.set_needs.proofs.ways.direct_row.Goals as goal

pub loop-to-preserved : goal.loop-to-preserved
loop-to-preserved c =
    rw c.in_ok-push.ensures.items (table_more (IsQuickestBelow c.args.instance.now 0 c.args.from) c.loop-to.to _ c.loop-to.row.items c.loop-to.invariant
    (rw (c.get.ensures.value ∙ c.distance.ensures.value) (direct c.args.instance.now c.args.from c.loop-to.to (omega (arith, c.distance.ensures.value, c.distance.ensures.bound)))))
