use Rattle.solomon_reader.specs.DualityLaws.{weak_duality}
use Rattle.solomon_reader.proofs.laws.weak_duality.Goals as goal

pub returns : goal.returns
returns c = weak_duality
