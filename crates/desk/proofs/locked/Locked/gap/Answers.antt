use Rattle.desk.proofs.Told.{best_of_plan}
use Rattle.desk.proofs.locked.Locked.gap.Goals as goal

pub see_cost-requires : goal.see_cost-requires
see_cost-requires g c =
    let best = rw c.in-Some.is at c.gap-gap.ensures.gap.cost in
    rw c.self.invariant.problem at (best_of_plan _ _ c.gap-gap.ensures.book best)
