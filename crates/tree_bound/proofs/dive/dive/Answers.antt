use Rattle.std.proofs.Common.{◌≡◌, ◌+◌, None, sym, subst, arith}
use Rattle.leaf_arcs.specs.declared.arcs.AllowedArc.{AllowedArc}
use Rattle.leaf_arcs.specs.Arcs.{arc_in, AreAllowedArcs, IsArcRow}
use Rattle.leaf_arcs.specs.Leaves.{pricing_of}
use Rattle.tree_bound.specs.Labels.{IsLabel}
use Rattle.tree_bound.proofs.Working.{label_extended, found_closed}
use Rattle.tree_bound.proofs.dive.dive.Goals as goal

pub loop-stop-preserved : goal.loop-stop-preserved
loop-stop-preserved c =
    let leaf = c.args.task.now.leaf in
    let label = c.loop-stop.label in
    let load = c.loop-stop.load in
    let row = subst (IsArcRow (pricing_of leaf) label.customer) (sym c.index.ensures) (c.args.task.now.rows_are.each label.customer c.index.result.now c.loop-stop.invariant.label.bounded.last) in
    let all : AreAllowedArcs (pricing_of leaf) label.customer c.as_slice-arcs.result.now = rw c.as_slice-arcs.ensures.value row.arcs in
    let arc : AllowedArc = arc_in c.as_slice-arcs.result.now c.promising-place.result in
    let e : load + c.from-load.result ≡ load + arc.demand = omega (arith, c.from-load.ensures) in
    let longer = label_extended _ None load label (load + arc.demand) arc.to c.extend-label.result c.loop-stop.invariant.label (all.each c.promising-place.result c.if-place-arcs.false).customer
    (all.allowed c.promising-place.result c.if-place-arcs.false) (c.can_extend.ensures.0 c.if-not-can_extend.false) c.extend-label.ensures in
    let here : IsLabel (pricing_of leaf) (load + c.from-load.result) c.extend-label.result = rw e longer in
    record { label = here; found = found_closed _ None (load + c.from-load.result) c.extend-label.result c.loop-stop.best _ here c.loop-stop.invariant.found c.close_route-best.ensures.from }
