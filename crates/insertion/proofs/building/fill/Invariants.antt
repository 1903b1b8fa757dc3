use Rattle.std.proofs.Common.{vec_len}
use Rattle.insertion.proofs.Taking.{Fills}
use Rattle.insertion.proofs.building.fill.Given as goal

abbrev pub invariant-loop-proposal : goal.invariant-loop-proposal
invariant-loop-proposal l = Fills l.fn.seeded.instance.now l.fn.seeded.visits.items l.fn.unrouted.items l.route.instance.now l.route.visits.items l.unrouted.items

abbrev pub decreases-loop-proposal : goal.decreases-loop-proposal
decreases-loop-proposal l = vec_len l.unrouted
