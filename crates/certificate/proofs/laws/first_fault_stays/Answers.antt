use Rattle.certificate.proofs.Loops.{reading_stays}
use Rattle.certificate.proofs.laws.first_fault_stays.Goals as goal

pub returns : goal.returns
returns c = reading_stays
