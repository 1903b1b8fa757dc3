use Rattle.solomon_reader.proofs.Bounds.{one_tree_bound}
use Rattle.solomon_reader.proofs.laws.one_bound.Goals as goal

pub returns : goal.returns
returns c = one_tree_bound
