use Rattle.std.proofs.Common.{◌<◌, length, IfSome}
use Rattle.insertion.proofs.proposal.best_candidate.Given as goal

abbrev pub invariant-loop-position : goal.invariant-loop-position
invariant-loop-position l = IfSome l.best (λ b. b.position < length l.route.places.items)
