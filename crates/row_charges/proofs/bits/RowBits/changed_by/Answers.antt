use Rattle.row_charges.proofs.Places.{both_xor}
use Rattle.row_charges.proofs.bits.RowBits.changed_by.Goals as goal

pub returns : goal.returns
returns c i = both_xor c.args.self c.args.other i
