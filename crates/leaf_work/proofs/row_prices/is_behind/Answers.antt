use Rattle.std.proofs.Common.{arith, length, ◌-◌}
use Rattle.row_charges.specs.Rows.{row_of}
use Rattle.leaf_work.proofs.RowPrices.{behind_last, blank}
use Rattle.leaf_work.proofs.row_prices.is_behind.Goals as goal

pub returns-else-count-eq0 : goal.returns-else-count-eq0
returns-else-count-eq0 c = λ h. behind_last c.args.rows.now blank (length c.args.rows.now - 1) (row_of c.args.row.now).row (omega (arith, c.if-count-eq0.false)) (rw c.is_before.ensures at h)
