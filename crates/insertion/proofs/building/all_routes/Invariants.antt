use Rattle.insertion.proofs.Taking.{IsOpening}
use Rattle.insertion.proofs.building.all_routes.Given as goal

abbrev pub invariant-loop : goal.invariant-loop
invariant-loop l = IsOpening l.instance l.fn.unrouted.items l.routes.items l.unrouted.items l.counter
