use Rattle.solomon_reader.specs.DualityLaws.{ceiling_holds, tree_bound_holds, no_plan_above}
use Rattle.solomon_reader.proofs.laws.bounds_hold.Goals as goal

pub returns-clause-ceiling : goal.returns-clause-ceiling
returns-clause-ceiling c = ceiling_holds

pub returns-clause-tree : goal.returns-clause-tree
returns-clause-tree c = tree_bound_holds

pub returns-clause-no_plan : goal.returns-clause-no_plan
returns-clause-no_plan c = no_plan_above
