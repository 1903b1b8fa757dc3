use Rattle.solomon_reader.proofs.Bounds.{one_least}
use Rattle.solomon_reader.proofs.laws.one_least.Goals as goal

pub returns : goal.returns
returns c = one_least
