use Rattle.closing.proofs.NoDearer.{below_first}
use Rattle.closing.proofs.first.first_plan.Goals as goal

pub returns-clause-no_dearer : goal.returns-clause-no_dearer
returns-clause-no_dearer c =
    below_first c.args.start _ c.in-Some.plan c.search_from.result.cost (rw c.in-Some.is at c.cheaper.ensures) c.search_from.ensures.cost
