use Rattle.std.proofs.Common.{sym, ◌∙◌}
use Rattle.row_charges.specs.Rows.{rows_of, IsStopOf}
use Rattle.row_charges.proofs.Stopping.{stop_charge, found_at}
use Rattle.row_charges.proofs.table.RowTable.charge.Goals as goal

pub returns-in-Some-clause-is : goal.returns-in-Some-clause-is
returns-in-Some-clause-is c =
    let t = c.args.self.now in
    let found = rw (c.from.ensures, c.deref.ensures.value) at c.in-Some.ensures.lookup in
    let here = found_at t.stops.items c.args.j c.in-Some.stop.now c.in-Some.stop.now (sym found.0) found.1 in
    let is : IsStopOf t.instance.now t.neighbours (rows_of t.rows.items) c.args.j c.in-Some.stop.now = rw here.1 (t.stops_are.each c.args.j c.in-Some.stop.now here.0) in
    (rw c.as_slice.ensures.value at c.price_of.ensures.is) ∙ stop_charge t.instance.now t.neighbours c.args.j (rows_of t.rows.items) c.in-Some.stop.now c.args.bits c.and.result is c.and.ensures
