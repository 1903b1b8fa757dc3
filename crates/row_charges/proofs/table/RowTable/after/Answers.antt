use Rattle.std.proofs.Common.{sym}
use Rattle.row_charges.specs.Rows.{rows_of, IsStopOf}
use Rattle.row_charges.proofs.Stopping.{stop_after, found_at}
use Rattle.row_charges.proofs.table.RowTable.after.Goals as goal

pub returns-in-Some : goal.returns-in-Some
returns-in-Some c =
    let t = c.args.self.now in
    let found = rw (c.from.ensures, c.deref.ensures.value) at c.in-Some.ensures.lookup in
    let here = found_at t.stops.items c.args.j c.in-Some.stop.now c.in-Some.stop.now (sym found.0) found.1 in
    let is : IsStopOf t.instance.now t.neighbours (rows_of t.rows.items) c.args.j c.in-Some.stop.now = rw here.1 (t.stops_are.each c.args.j c.in-Some.stop.now here.0) in
    stop_after t.instance.now t.neighbours c.args.j (rows_of t.rows.items) c.in-Some.stop.now c.args.bits c.changed_by.result c.and.result is c.changed_by.ensures c.and.ensures
