use Rattle.std.proofs.Common.{◌≡◌, ◌||◌, sym, ◌∙◌, slice_index_or}
use Rattle.solomon_reader.specs.SubsetRows.{in_row, keeps_row}
use Rattle.row_charges.specs.Rows.{row_of}
use Rattle.row_charges.proofs.Stopping.{stop_more, blank}
use Rattle.row_charges.proofs.stop.stop_at.Goals as goal
use Rattle.row_charges.proofs.stop.stop_at.Goals.{then-is_here, else-is_here}

pub loop-place-preserved : goal.loop-place-preserved
loop-place-preserved c =
    let row = row_of (slice_index_or c.args.rows.now c.loop-place.place blank) in
    let kept : c.if-is_here.is_kept ≡ (in_row row.row c.args.v || keeps_row c.args.instance.now c.args.neighbours row.row c.args.v) = elim c.if-is_here.branch [
      | then-is_here w ↦ rw (sym c.has-is_here.ensures ∙ w.if-is_here.true) (w.is_kept-is ∙ w.if-is_here.true)
      | else-is_here w ↦ rw (sym c.has-is_here.ensures ∙ w.if-is_here.false) (w.is_kept-is ∙ w.is_kept-is_kept.ensures)
    ] in
    stop_more c.args.instance.now c.args.neighbours c.args.v c.args.rows.now c.loop-place.place c.loop-place.stop c.with_if.result c.with_if-in-loop-place.result
    c.has-is_here.result c.if-is_here.is_kept c.loop-place-test.true c.loop-place.invariant c.with_if.ensures c.with_if-in-loop-place.ensures c.has-is_here.ensures kept
