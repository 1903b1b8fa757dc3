use Rattle.fronts.specs.Memories.{IsWholeList}
use Rattle.fronts.proofs.Listed.{table_more}
use Rattle.fronts.proofs.tables.neighbour_lists.Goals as goal

pub loop-v-preserved : goal.loop-v-preserved
loop-v-preserved c = rw c.in_ok-push.ensures.items (table_more (IsWholeList c.args.instance.now c.args.neighbours) c.loop-v.v _ c.loop-v.table.items c.loop-v.invariant c.neighbour_list.ensures)
