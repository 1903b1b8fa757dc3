use Rattle.row_charges.proofs.Places.{both_none}
use Rattle.row_charges.proofs.bits.RowBits.none.Goals as goal

pub returns : goal.returns
returns c i = both_none i
