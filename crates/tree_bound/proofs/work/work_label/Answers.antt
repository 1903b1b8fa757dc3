use Rattle.std.proofs.Common.{sym, subst}
use Rattle.leaf_arcs.specs.Arcs.{IsArcRow}
use Rattle.leaf_arcs.specs.Leaves.{pricing_of}
use Rattle.tree_bound.proofs.Working.{done_of}
use Rattle.tree_bound.proofs.work.work_label.Goals as goal

pub returns : goal.returns
returns c =
    let row = subst (IsArcRow (pricing_of c.args.task.now.leaf) c.args.label.now.customer) (sym c.index-row.ensures)
    (c.args.task.now.rows_are.each c.args.label.now.customer c.index-row.result.now c.requires.label.bounded.last) in
    done_of _ c.args.table.now.buckets.items _ c.args.load c.args.label.now c.args.best _ c.index-row.result.now.arcs.items row.arcs
    c.requires.label.bounded c.close_route-after.ensures (rw c.as_slice.ensures.value at c.in_ok-take_steps.ensures)
