use Rattle.solomon_reader.proofs.FaultsStay.{reading_stays}
use Rattle.solomon_reader.proofs.laws.first_fault.Goals as goal

pub returns : goal.returns
returns c = reading_stays
