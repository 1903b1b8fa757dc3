use Rattle.priced_sets.specs.Sets.{set_of}
use Rattle.solomon_reader.specs.EntryLaws.{Paying}
use Rattle.priced_sets.proofs.entering.entry_prices.Given as goal

abbrev pub invariant-loop-set : goal.invariant-loop-set
invariant-loop-set l = Paying set_of l.sets l.v l.count l.grains l.set-index
