use Rattle.row_charges.proofs.Places.{both_and}
use Rattle.row_charges.proofs.bits.RowBits.and.Goals as goal

pub returns : goal.returns
returns c i = both_and c.args.self c.args.other i
