use Rattle.std.proofs.Common.{◌+◌, arith}
use Rattle.set_needs.specs.Quickest.{IsQuickestBelow}
use Rattle.set_needs.proofs.Tables.{table_more}
use Rattle.set_needs.proofs.Detours.{through}
use Rattle.set_needs.proofs.ways.row_through.Goals as goal

pub loop-to-preserved : goal.loop-to-preserved
loop-to-preserved c =
    rw c.in_ok-push.ensures.items (table_more (IsQuickestBelow c.args.instance.now (c.args.over + 1) c.args.from) c.loop-to.to _ c.loop-to.quicker.items c.loop-to.invariant
    (rw (c.min.ensures, c.from-place.ensures, c.from.ensures) (through c.args.instance.now c.args.over c.args.from c.loop-to.to _ _ _
    (c.requires.row.each c.loop-to.to 0 (omega (arith, c.loop-to-test.true, c.customer_count-to-end.ensures.rows, c.customer_count-to-end.ensures.value)))
    (c.requires.row.each c.args.over 0 c.requires.over)
    (c.requires.onward.each c.loop-to.to 0 (omega (arith, c.loop-to-test.true, c.customer_count-to-end.ensures.rows, c.customer_count-to-end.ensures.value))))))
