use Rattle.std.proofs.Common.{◌≡◌}
use Rattle.std.specs.List.{each_same}
use Rattle.solomon_reader.specs.Lists.{lists}
use Rattle.solomon_reader.proofs.Planning.{same_lists}
use Rattle.schedule.proofs.plan.Feasible.try_clone.Goals as goal

pub invariant_of-result : goal.invariant_of-result
invariant_of-result c =
    let same : lists c.in_ok-routes.routes.items ≡ lists c.self.inside.routes.items =
    same_lists _ (λ v w h. each_same v.items w.items h.0) _ _ c.in_ok-routes.ensures.cases.0 in
    rw same c.self.invariant

pub returns : goal.returns
returns c =
    let same : lists c.in_ok-routes.routes.items ≡ lists c.self.inside.routes.items =
    same_lists _ (λ v w h. each_same v.items w.items h.0) _ _ c.in_ok-routes.ensures.cases.0 in
    rw same c.self.view_is
