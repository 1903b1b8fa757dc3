use Rattle.std.proofs.Common.{take}
use Rattle.row_charges.specs.Rows.{rows_of, IsStopOf}
use Rattle.row_charges.proofs.stop.stop_at.Given as goal

abbrev pub invariant-loop-place : goal.invariant-loop-place
invariant-loop-place l = IsStopOf l.instance l.neighbours (rows_of (take l.place l.rows)) l.v l.stop
