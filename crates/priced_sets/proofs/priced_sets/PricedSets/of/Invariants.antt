use Rattle.std.proofs.Common.{◌≡◌, [], take}
use Rattle.priced_sets.specs.Sets.{sets_of, AreTakenIn}
use Rattle.priced_sets.specs.declared.priced_sets.TheConstants.{MOST_TOGETHER}
use Rattle.priced_sets.proofs.priced_sets.PricedSets.of.Given as goal

abbrev pub invariant-loop-set : goal.invariant-loop-set
invariant-loop-set l = (l.sets.problem ≡ l.instance) × (l.needed ≡ l.initial.needed) × (l.needed ≡ l.instance)
    × AreTakenIn l.instance MOST_TOGETHER [] (take l.set-index (sets_of l.wanted)) l.sets.sets
