use Rattle.leaf_arcs.specs.Sets.{set_of}
use Rattle.solomon_reader.specs.EntryLaws.{Paying}
use Rattle.leaf_arcs.proofs.entries.entry_prices.Given as goal

abbrev pub invariant-loop-set : goal.invariant-loop-set
invariant-loop-set l = Paying set_of l.leaf.sets.now l.v l.count l.grains l.set-index
