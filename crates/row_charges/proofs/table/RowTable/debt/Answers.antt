use Rattle.std.proofs.Common.{◌∙◌}
use Rattle.row_charges.specs.Bits.{bit_of}
use Rattle.row_charges.specs.Rows.{rows_of}
use Rattle.row_charges.proofs.Stopping.{price_same, debt_marked}
use Rattle.row_charges.proofs.table.RowTable.debt.Goals as goal

pub returns-clause-is : goal.returns-clause-is
returns-clause-is c =
    let rows = rows_of c.args.self.now.rows.items in
    (rw c.as_slice.ensures.value at c.price_of.ensures.is) ∙ price_same rows (bit_of c.without.result) _ c.without.ensures ∙ debt_marked rows (bit_of c.args.x) (bit_of c.args.y)
