use Rattle.priced_sets.proofs.Sums.{IsCopied}
use Rattle.priced_sets.proofs.priced_sets.PricedSets.try_clone.Given as goal

abbrev pub invariant-loop-set : goal.invariant-loop-set
invariant-loop-set l = IsCopied l.self-inside.sets.items l.set-index l.sets.items
