use Rattle.row_charges.specs.Rows.{rows_of}
use Rattle.row_charges.proofs.Stopping.{AreStopsBelow}
use Rattle.row_charges.proofs.table.RowTable.new.Given as goal

abbrev pub invariant-loop-v : goal.invariant-loop-v
invariant-loop-v l = AreStopsBelow l.instance l.neighbours (rows_of l.fn.rows.items) l.v l.stops.items
