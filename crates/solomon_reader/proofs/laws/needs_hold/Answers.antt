use Rattle.solomon_reader.specs.SetLaws.{needs_hold}
use Rattle.solomon_reader.proofs.laws.needs_hold.Goals as goal

pub returns : goal.returns
returns c = needs_hold
