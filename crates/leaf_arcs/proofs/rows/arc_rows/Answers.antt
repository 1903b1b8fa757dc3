use Rattle.leaf_arcs.specs.Arcs.{IsArcRow}
use Rattle.leaf_arcs.specs.Leaves.{pricing_of}
use Rattle.leaf_arcs.proofs.Flooring.{each_more}
use Rattle.leaf_arcs.proofs.rows.arc_rows.Goals as goal

pub loop-v-preserved : goal.loop-v-preserved
loop-v-preserved c = rw c.in_ok-push.ensures.items (each_more (IsArcRow (pricing_of c.args.leaf.now)) c.loop-v.v c.loop-v.rows.items c.in_ok-arc_row.field-0 c.loop-v.invariant c.in_ok-arc_row.ensures)
