use Rattle.priced_sets.proofs.Admitting.{IsSought}
use Rattle.priced_sets.proofs.priced_sets.PricedSets.has.Given as goal

abbrev pub invariant-loop-set : goal.invariant-loop-set
invariant-loop-set l = IsSought l.members l.set-items l.set-index
