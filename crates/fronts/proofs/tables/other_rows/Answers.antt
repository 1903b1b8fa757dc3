use Rattle.solomon_reader.specs.Problem.{customer_count}
use Rattle.fronts.specs.Tables.{IsOther}
use Rattle.fronts.proofs.Listed.{table_more}
use Rattle.fronts.proofs.Narrowing.{other_is}
use Rattle.fronts.proofs.tables.other_rows.Goals as goal

pub loop-i-preserved : goal.loop-i-preserved
loop-i-preserved c =
    rw c.in_ok-push.ensures.items (table_more (IsOther (customer_count c.args.instance.now)) c.loop-i.i _ c.loop-i.table.items c.loop-i.invariant
    (rw c.remove.ensures (other_is _ c.loop-i.i _ (rw c.customer_count-count.ensures.value at c.in_ok-others.ensures))))
