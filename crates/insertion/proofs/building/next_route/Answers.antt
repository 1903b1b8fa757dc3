use Rattle.std.proofs.Common.{◌∙◌}
use Rattle.insertion.proofs.Taking.{taken_first}
use Rattle.insertion.proofs.building.next_route.Goals as goal

pub returns-clause-taken : goal.returns-clause-taken
returns-clause-taken c =
    taken_first c.args.unrouted.now.items c.args.seed c.index.result.now c.in-Some.route.visits.items c.remove.new.self.items c.fill.result c.fill.new.unrouted.items c.requires.bound c.index.ensures
    ((rw c.in-Some.is at c.in_ok-route.ensures.visits) ∙ c.in_ok-visits.ensures.items) c.remove.ensures.items c.fill.ensures.moved c.fill.ensures.rising
