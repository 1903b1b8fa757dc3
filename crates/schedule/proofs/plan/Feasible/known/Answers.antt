use Rattle.schedule.proofs.FittingRoutes.{fitting_routes}
use Rattle.schedule.proofs.plan.Feasible.known.Goals as goal

pub total_cost-cost-requires-clause-fitting : goal.total_cost-cost-requires-clause-fitting
total_cost-cost-requires-clause-fitting c = rw c.as_slice.ensures.value (fitting_routes c.args.instance.now c.args.routes.items c.requires.fitting)
