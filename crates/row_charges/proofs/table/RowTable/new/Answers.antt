use Rattle.std.proofs.Common.{arith}
use Rattle.row_charges.specs.Rows.{rows_of, IsStopOf}
use Rattle.row_charges.proofs.Stopping.{stops_more, stops_whole}
use Rattle.row_charges.proofs.table.RowTable.new.Goals as goal

pub loop-v-preserved : goal.loop-v-preserved
loop-v-preserved c =
    let one : IsStopOf c.args.instance.now c.args.neighbours (rows_of c.args.rows.items) c.loop-v.v c.stop_at.result = rw c.as_slice.ensures.value at c.stop_at.ensures in
    rw c.in_ok-push.ensures.items
    (stops_more c.args.instance.now c.args.neighbours c.loop-v.v (rows_of c.args.rows.items) c.loop-v.stops.items c.stop_at.result c.loop-v.invariant one)

pub invariant_of-result : goal.invariant_of-result
invariant_of-result c = record {
  few = c.requires.few;
  low = c.requires.low;
  stops_are = stops_whole c.args.instance.now c.args.neighbours c.loop-v.v (rows_of c.args.rows.items) c.loop-v.stops.items c.loop-v.invariant
      (omega (arith, c.loop-v-test.false, c.customer_count-v-end.ensures.rows, c.customer_count-v-end.ensures.value, c.customer_count-v-end.ensures.some));
}
