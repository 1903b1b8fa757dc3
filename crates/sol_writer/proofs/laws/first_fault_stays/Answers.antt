use Rattle.sol_writer.proofs.Loops.{reading_stays}
use Rattle.sol_writer.proofs.laws.first_fault_stays.Goals as goal

pub returns : goal.returns
returns c = reading_stays
