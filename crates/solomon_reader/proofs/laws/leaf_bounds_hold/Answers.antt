use Rattle.solomon_reader.specs.SetDualityLaws.{leaf_weak_duality, same_without, paid_by_sets}
use Rattle.solomon_reader.proofs.laws.leaf_bounds_hold.Goals as goal

pub returns-clause-leaf : goal.returns-clause-leaf
returns-clause-leaf c = leaf_weak_duality

pub returns-clause-without : goal.returns-clause-without
returns-clause-without c = same_without

pub returns-clause-steps : goal.returns-clause-steps
returns-clause-steps c = paid_by_sets
