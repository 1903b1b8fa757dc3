use Rattle.priced_sets.proofs.needed_sets.NeededSets.is_known.Given as goal

abbrev pub invariant-loop-set : goal.invariant-loop-set
invariant-loop-set l = Unit {0}
