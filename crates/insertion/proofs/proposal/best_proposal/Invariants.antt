use Rattle.std.proofs.Common.{◌≤◌, ◌<◌, length, IfSome}
use Rattle.insertion.proofs.proposal.best_proposal.Given as goal

abbrev pub invariant-loop-index : goal.invariant-loop-index
invariant-loop-index l = IfSome l.best (λ b. (b.unrouted < length l.unrouted) × (b.position ≤ length l.route.visits.items))
