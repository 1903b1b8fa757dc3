use Rattle.std.proofs.Common.{◌≡◌, ◌+◌, drop}
use Rattle.solomon_reader.specs.SubsetRows.{row_price_sum}
use Rattle.row_charges.specs.Rows.{rows_of}
use Rattle.prices.proofs.valuing.charge_of.Given as goal

abbrev pub invariant-loop-row : goal.invariant-loop-row
invariant-loop-row l = l.sum + row_price_sum (rows_of (drop l.row-index l.rows)) ≡ row_price_sum (rows_of l.rows)
